-- A test tells a reason: it fails exactly where the reason holds. Assumes nothing.
use Prim.Native.Nat.{ℕ, ◌≤◌, ◌<◌}
use mathlib.Core.Bool.{Bool, true, false, ◌&&◌, true≢false}
use mathlib.Core.Path.{◌≡◌, refl}
use mathlib.Core.Logic.{◌⊎◌, inl, inr, ⊎_elim, ◌↔◌}
use native.Mathlib.Omega.{arith}
use lib.Dec.{ltb, leb, eqb}
use borrow.Author.Tests.{ltb-true, ltb-false, leb-true, leb-false, eqb-true, eqb-false}

pub data Told (P : Type 0) : Bool → Type 0 where
  holds : P → Told P false
  fails : (P → ⊥) → Told P true

pub told_same : {t : Bool} {P Q : Type 0} → (P → Q) → (Q → P) → Told P t → Told Q t
told_same f g (holds p) = holds (f p)
told_same f g (fails p) = fails (λ q. p (g q))

pub told_or : {t u : Bool} {P Q : Type 0} → Told P t → Told Q u → Told (P ⊎ Q) (t && u)
told_or (holds p) q = holds (inl p)
told_or (fails p) (holds q) = holds (inr q)
told_or (fails p) (fails q) = fails (⊎_elim p q)

pub told_exactly : {t : Bool} {P : Type 0} → Told P t → (t ≡ false) ↔ P
told_exactly (holds p) = (λ e. p, λ q. refl)
told_exactly (fails p) = (λ e. absurd (true≢false e), λ q. absurd (p q))

-- ---- tests of two numbers

pub by_test : {P : Type 0} (t : Bool) → (t ≡ true → P → ⊥) → (t ≡ false → P) → Told P t
by_test true f h = fails (f refl)
by_test false f h = holds (h refl)

pub ltb_told : (a n : ℕ) → Told (n ≤ a) (ltb a n)
ltb_told a n = by_test (ltb a n) (λ e h. omega (arith, ltb-true a n e)) (ltb-false a n)

pub leb_told : (a n : ℕ) → Told (n < a) (leb a n)
leb_told a n = by_test (leb a n) (λ e h. omega (arith, leb-true a n e)) (leb-false a n)

pub eqb_told : (a b : ℕ) → Told (a ≡ b → ⊥) (eqb a b)
eqb_told a b = by_test (eqb a b) (λ e ne. ne (eqb-true a b e)) (eqb-false a b)
