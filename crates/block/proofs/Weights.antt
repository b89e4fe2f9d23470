-- The weight of one of the seven digits, as the code shifts it. Assumes nothing.
use Prim.Native.Nat.{ℕ, ◌*◌, ◌%◌, ◌^◌, ◌≤◌, ◌<◌}
use mathlib.Core.Path.{◌≡◌, ◌∙◌}
use native.Mathlib.Nat.{one-mul}
use native.Mathlib.Omega.{arith}
use lib.Pow.{pow_mono, pow_pos, shl_exact}

-- no bit of it is lost, and it is the number of one of rows 1 to 64
pub weight : (k : ℕ) → k < 7 → (1 * 2 ^ k % 2 ^ 64 ≡ 2 ^ k) × (1 ≤ 2 ^ k) × (2 ^ k ≤ 64)
weight k h = (shl_exact {a = 1} 1 k 64 (omega arith) (omega arith) ∙ one-mul (2 ^ k), pow_pos k, pow_mono {i = k} {j = 6} (omega arith))
