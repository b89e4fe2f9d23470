-- The data last written to a block is as many words as a block has, and each a word. Assumes nothing.
use Prim.Native.Nat.{ℕ, zero, suc}
use mathlib.Core.Bool.{Bool, true, false, cond}
use native.Mathlib.Omega.{arith}
use mathlib.Core.Path.{◌≡◌, refl, sym, ap, ◌∙◌}
use mathlib.Core.List.{List, [], ◌∷◌}
use lib.Dec.{eqb}
use lib.ListN.{length}
use Rattle.ground.specs.Choice.{if_zero}
use Rattle.block.specs.Block.{Fitting}
use Rattle.layout.specs.declared.Layout.{Layout}
use Rattle.layout.specs.Layout.{words_of}
use Rattle.store.specs.Refusal.{data_refusal}
use Rattle.store.proofs.Ladder.{data_accepted}
use Rattle.demands.specs.Steps.{Step, format, write, read, visit, ask, turn, flip, State, step_after, answers, meant, last_written}
use Rattle.demands.specs.Demand3.{SameLayout, WordsWritten}
use Rattle.demands.proofs.Numbers.{write_number}
use Rattle.demands.proofs.Simulated.{LayoutFrom, first_named, rest_named}

-- a list of as many words as a block of the layout has
pub record DataOf (layout : Layout) (list : List ℕ) : Type 0 where
  pub exact : length list ≡ words_of layout
  pub small : Fitting list

module _ (layout : Layout) (block : ℕ) where
  meant_data : (old : List ℕ) (step : Step) (state : State) → (answers step state ≡ 0 → SameLayout layout step)
      → ((named : Layout) (to : ℕ) (list : List ℕ) → step ≡ write named to list → Fitting list)
      → DataOf layout old → DataOf layout (meant block old step state)
  meant_data old (write named to list) state same small ok = go (answers (write named to list) state) refl (eqb to block)
    where
      passed : answers (write named to list) state ≡ 0 → data_refusal (length state.image) named to (length list) ≡ 0
      passed e = sym (write_number state.image named to list) ∙ e

      go : (number : ℕ) → answers (write named to list) state ≡ number → (t : Bool) → DataOf layout (if_zero number (cond t list old) old)
      go zero e true =
          record {
            exact = (data_accepted (length state.image) named to (length list) (passed e)).1 ∙ ap words_of (same e);
            small = small named to list refl;
          }
      go zero e false = ok
      go (suc number) e t = ok
  meant_data old (format named) state same small ok = ok
  meant_data old (read named from buffer) state same small ok = ok
  meant_data old (visit named at) state same small ok = ok
  meant_data old (ask wanted) state same small ok = ok
  meant_data old turn state same small ok = ok
  meant_data old (flip at bit) state same small ok = ok

  pub written_data : (steps : List Step) (old : List ℕ) (state : State) → LayoutFrom layout state steps → WordsWritten steps
      → DataOf layout old → DataOf layout (last_written block old steps state)
  unfolding last_written
  written_data [] old state one words ok = ok
  written_data (step ∷ rest) old state one words ok =
      written_data rest (meant block old step state) (step_after step state) (rest_named layout state step rest one)
      (λ before later named to list e. words (step ∷ before) later named to list (ap (λ (l : List Step). step ∷ l) e))
      (meant_data old step state (first_named layout state step rest one)
      (λ named to list e k. omega (arith, words [] rest named to list (ap (λ (x : Step). x ∷ rest) e) k))
      ok)
