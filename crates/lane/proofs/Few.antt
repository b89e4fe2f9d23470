-- Lanes with ones in few rows: in no two, in a single one at most, and in two. Assumes nothing.
use Prim.Native.Nat.{ℕ, zero, suc, ◌+◌, ◌≤◌, ◌<◌}
use mathlib.Core.Bool.{Bool, true, false, true≢false}
use mathlib.Core.Path.{◌≡◌, refl, sym, ap, ◌∙◌}
use mathlib.Core.Logic.{by_cases}
use native.Mathlib.Decide.{ℕ_discrete}
use native.Mathlib.Omega.{arith}
use Rattle.lane.specs.Bit.{pick}
use Rattle.lane.specs.Lane.{Lane, count}
use Rattle.lane.proofs.Distance.{empty}
use Rattle.lane.proofs.Linear.{count_same}
use Rattle.lane.proofs.Mended.{count_empty}

is_false : (b : Bool) → (b ≡ true → ⊥) → b ≡ false
is_false true ne = absurd (ne refl)
is_false false ne = refl

-- no two rows with a one
pub count_once : (n : ℕ) (f : Lane) → ((j k : ℕ) → j < k → k < n → f (suc j) ≡ true → f (suc k) ≡ true → ⊥) → count n f ≤ 1
unfolding count
count_once zero f h = omega arith
count_once (suc n) f h = go (f (suc n)) refl (count_once n f (λ j k l b. h j k l (omega arith)))
  where
    go : (b : Bool) → f (suc n) ≡ b → count n f ≤ 1 → count n f + pick b 1 ≤ 1
    go true e c = let z = count_same n f (λ p. false) (λ j l. is_false (f (suc j)) (λ t. h j n l (omega arith) t e)) ∙ count_empty n in omega arith
    go false e c = omega arith

-- a one in a single row at most
pub count_single : (n : ℕ) (f : Lane) (r : ℕ) → ((j : ℕ) → j < n → (j ≡ r → ⊥) → f (suc j) ≡ false) → count n f ≤ 1
count_single n f r h =
    let there : (k : ℕ) → k < n → f (suc k) ≡ true → k ≡ r =
    λ k l t. by_cases (ℕ_discrete k r) (λ e. e) (λ ne. absurd (true≢false (sym t ∙ h k l ne))) in
    count_once n f (λ j k l b t u. omega (arith, there j (omega arith) t, there k b u))

-- ones in two rows are not at most one
pub count_two : (n : ℕ) (f : Lane) (j k : ℕ) → j < k → k < n → f (suc j) ≡ true → f (suc k) ≡ true → count n f ≤ 1 → ⊥
unfolding count
count_two zero f j k l h t u c = omega arith
count_two (suc n) f j k l h t u c =
    by_cases (ℕ_discrete k n)
    (λ e.
    let last : f (suc n) ≡ true = ap (λ (i : ℕ). f (suc i)) (sym e) ∙ u in
    let none : count n f ≡ 0 = let q : count n f + 1 ≤ 1 = rw last at c in omega arith in
    true≢false (sym t ∙ empty n f none j (omega arith)))
    (λ ne. count_two n f j k l (omega arith) t u (omega arith))
