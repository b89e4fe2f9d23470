-- The smaller of two numbers is one of them, and not above either. Assumes nothing.
use Prim.Native.Nat.{ℕ, ◌≤◌, ◌<◌, min}
use mathlib.Core.Path.{◌≡◌, ◌∙◌}
use native.Mathlib.Decide.{dec_lt}
use native.Mathlib.Nat.{min-le_left, min-le_right, min-eq_left, min-eq_right}
use native.Mathlib.Omega.{arith}

pub record Least (a b least : ℕ) : Type 0 where
  pub first : least ≤ a
  pub second : least ≤ b
  pub either : least < a → least ≡ b

pub least_of : (a b least : ℕ) → least ≡ min a b → Least a b least
least_of a b least e =
    record {
      first = omega (arith, min-le_left a b);
      second = omega (arith, min-le_right a b);
      either = λ h. e ∙ other h;
    }
  where
    other : least < a → min a b ≡ b
    other h = elim (dec_lt a b) [
      | yes l ↦ absurd (omega (arith, e, min-eq_left {n = a} {m = b} (omega arith)))
      | no l ↦ min-eq_right {n = b} {m = a} (omega arith)
    ]
