-- A store whose format was refused names no layout for good, and gives no ask a place. Assumes nothing.
use Prim.Native.Nat.{ℕ, zero, suc}
use mathlib.Core.Path.{◌≡◌, refl, sym, ap, ◌∙◌}
use mathlib.Core.List.{List}
use native.Mathlib.Omega.{arith}
use lib.ListN.{length}
use Rattle.ground.specs.Choice.{if_zero}
use Rattle.layout.specs.declared.Layout.{Layout}
use Rattle.layout.specs.Layout.{layout_of}
use Rattle.layout.specs.Refusal.{layout_refusal, image_refusal}
use Rattle.std.specs.Prelude.{Ok}
use Rattle.patrol.specs.declared.Record.{Record}
use Rattle.patrol.specs.Ask.{asked, asked_by}
use Rattle.patrol.specs.Format.{fresh_record, no_record, formatted}
use Rattle.demands.specs.Steps.{Step, fresh}
use Rattle.demands.specs.Demand3.{store, NotFormatted}
use Rattle.demands.proofs.Lasting.{after_layout}

-- an ask that is given a place is of a record whose layout is accepted
given_accepted : (r : Record) (block place : ℕ) → (asked r block).place ≡ Ok place → layout_refusal r.layout ≡ 0
unfolding asked
given_accepted r block place e = go (layout_refusal r.layout) e
  where
    go : (number : ℕ) → (asked_by r block number).place ≡ Ok place → number ≡ 0
    go zero q = refl
    go (suc number) q = let z : ◌≡◌ {A = ℕ} 0 1 = cc in absurd (omega arith)

-- and that of zeros is not
zeros_refused : layout_refusal (layout_of 0 0 0) ≡ 0 → ⊥
unfolding layout_refusal
zeros_refused e = omega arith

-- so where an ask is given a place, the format was accepted
pub given_formatted : (image : List ℕ) (layout : Layout) (before : List Step) → NotFormatted image layout before → (block place : ℕ)
    → (asked (store image layout before).patrol block).place ≡ Ok place
    → image_refusal (length image) layout ≡ 0
unfolding formatted
given_formatted image layout before none block place e = go (image_refusal (length image) layout) refl
  where
    passed : layout_refusal (fresh image layout).patrol.layout ≡ 0
    passed = sym (ap layout_refusal (after_layout before (fresh image layout) none)) ∙ given_accepted (store image layout before).patrol block place e

    go : (number : ℕ) → image_refusal (length image) layout ≡ number → image_refusal (length image) layout ≡ 0
    go zero f = f
    go (suc number) f = absurd (zeros_refused (ap (λ (n : ℕ). layout_refusal (if_zero n (fresh_record layout) no_record).layout) (sym f) ∙ passed))
