-- Totals of functions that agree, that are 0, that are added, or that are at most 1. Assumes nothing.
use Prim.Native.Nat.{ℕ, zero, suc, ◌+◌, ◌≤◌, ◌<◌}
use mathlib.Core.Path.{◌≡◌, refl, ap₂}
use native.Mathlib.Omega.{arith}
use Rattle.ground.specs.Totals.{total}

pub total_same : (n : ℕ) (f g : ℕ → ℕ) → ((i : ℕ) → i < n → f i ≡ g i) → total n f ≡ total n g
unfolding total
total_same zero f g h = refl
total_same (suc n) f g h = ap₂ (λ (x y : ℕ). x + y) (total_same n f g (λ i l. h i (omega arith))) (h n (omega arith))

pub total_zero : (n : ℕ) → total n (λ i. 0) ≡ 0
unfolding total
total_zero zero = refl
total_zero (suc n) = omega (arith, total_zero n)

pub total_add : (n : ℕ) (f g : ℕ → ℕ) → total n f + total n g ≡ total n (λ i. f i + g i)
unfolding total
total_add zero f g = refl
total_add (suc n) f g = omega (arith, total_add n f g)

pub total_few : (n : ℕ) (f : ℕ → ℕ) → ((i : ℕ) → i < n → f i ≤ 1) → total n f ≤ n
unfolding total
total_few zero f h = omega arith
total_few (suc n) f h = omega (arith, total_few n f (λ i l. h i (omega arith)), h n (omega arith))
