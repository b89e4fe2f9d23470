-- The round: a block that is j turns away is visited by the turn after j more. Assumes nothing.
use Prim.Native.Nat.{ℕ, zero, suc, ◌+◌, ◌-◌, ◌<◌}
use mathlib.Core.Bool.{Bool, true, false}
use mathlib.Core.Path.{◌≡◌, refl, ap}
use mathlib.Core.List.{List, [], ◌∷◌, ◌++◌}
use mathlib.Core.Logic.{◌⊎◌, inl, inr, ⊎_elim}
use native.Mathlib.Omega.{arith}
use lib.Dec.{leb}
use borrow.Author.Tests.{leb-true, leb-false}
use Rattle.rota.specs.Line.{places}
use Rattle.rota.specs.Plan.{Plan}
use Rattle.rota.specs.Turning.{onward, moved_on}
use Rattle.rota.specs.Steps.{Step, ask, turn, other, turns}
use Rattle.rota.proofs.Plans.{Sound, ask_adds, ask_sound, turn_sound, onward_cases, ask_after}
use Rattle.rota.proofs.Runs.{plan_step, plan_run}

-- the block is j turns after next, round n
abbrev pub Away : ℕ → ℕ → ℕ → ℕ → Type 0
Away n next b j = (j < n) × ((next + j ≡ b) ⊎ (next + j ≡ b + n))

pub away : (n next b : ℕ) → next < n → b < n → (j : ℕ) × Away n next b j
away n next b h k = go (leb next b) refl
  where
    go : (t : Bool) → leb next b ≡ t → (j : ℕ) × Away n next b j
    go true e = let l = leb-true next b e in (b - next, (omega arith, inl (omega arith)))
    go false e = let l = leb-false next b e in (b + n - next, (omega arith, inr (omega arith)))

pub away_zero : (n next b : ℕ) → next < n → Away n next b 0 → next ≡ b
away_zero n next b h a = ⊎_elim (λ e. omega arith) (λ e. absurd (omega arith)) a.1

pub away_step : (n next b j : ℕ) → next < n → b < n → Away n next b (suc j) → Away n (onward n next) b j
away_step n next b j h k a = (
  omega arith,
  ⊎_elim
      (λ o. rw o.1 (⊎_elim (λ e. inl (omega arith)) (λ e. inr (omega arith)) a.1))
      (λ o. rw o.1 (⊎_elim (λ e. absurd (omega arith)) (λ e. inl (omega arith)) a.1))
      (onward_cases n next h),
)

module _ {Other : Type 0} (n : ℕ) where
  -- a turn of the list at which the block is next
  pub record Reached (p : Plan) (l : List (Step Other)) (b : ℕ) : Type 0 where
    pub before : List (Step Other)
    pub after : List (Step Other)
    pub split : l ≡ before ++ turn ∷ after
    pub here : (plan_run n before p).next ≡ b

  later : (x : Step Other) (p : Plan) (l : List (Step Other)) (b : ℕ) → Reached (plan_step n x p) l b → Reached p (x ∷ l) b
  unfolding plan_run
  later x p l b r = record { before = x ∷ r.before; after = r.after; split = ap (λ (k : List (Step Other)). x ∷ k) r.split; here = r.here }

  pub reached : (l : List (Step Other)) (p : Plan) (b j : ℕ) → Sound places n p → b < n → Away n p.next b j → j < turns l → Reached p l b
  unfolding plan_run turns
  reached [] p b j s h a t = absurd (omega arith)
  reached (ask c ∷ l) p b j s h a t =
      later (ask c) p l b (reached l (ask_after places n p c) b j (ask_sound places n p c s) h (rw (ask_adds places n p c).2 a) t)
  reached (turn ∷ l) p b zero s h a t = record { before = []; after = l; split = refl; here = away_zero n p.next b s.inside a }
  reached (turn ∷ l) p b (suc j) s h a t =
      later turn p l b (reached l (moved_on n p) b j (turn_sound places n p s) h (away_step n p.next b j s.inside h a) (omega arith))
  reached (other x ∷ l) p b j s h a t = later (other x) p l b (reached l p b j s h a t)
