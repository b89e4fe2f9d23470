-- The rows of a block that lies in words. Assumes nothing.
use Prim.Native.Nat.{ℕ, zero, suc, ◌+◌, ◌*◌, ◌^◌, ◌≤◌, ◌<◌}
use mathlib.Core.Path.{◌≡◌, sym}
use mathlib.Core.List.{List}
use native.Mathlib.Nat.{le_refl}
use native.Mathlib.Omega.{arith}
use lib.ListN.{length, get_or}
use lib.Pow.{pow_pos}
use Rattle.shape.specs.declared.Shape.{Shape}
use Rattle.shape.specs.Shape.{rows}
use Rattle.ground.proofs.Lists.{length_list_of, get_or_list_of}
use Rattle.sums.specs.Words.{row}
use Rattle.sums.specs.Sums.{lying}

-- row p of a block that lies in words: the rows are counted from 1
abbrev pub placed : List ℕ → (at s p : ℕ) → ℕ
placed words at s zero = zero
placed words at s (suc k) = get_or words (at + k * s) 0

pub placed_fits : (words : List ℕ) (at s : ℕ) → ((k : ℕ) → get_or words k 0 < 2 ^ 32) → (p : ℕ) → placed words at s p < 2 ^ 32
placed_fits words at s fits zero = pow_pos 32
placed_fits words at s fits (suc k) = fits (at + k * s)

pub placed_lies : (shape : Shape) (words : List ℕ) (at s p : ℕ) → 1 ≤ p → p ≤ rows shape → placed words at s p ≡ row p (lying shape words at s)
unfolding lying
placed_lies shape words at s zero f l = absurd (omega arith)
placed_lies shape words at s (suc k) f l = sym (get_or_list_of (rows shape) (λ k. get_or words (at + k * s) 0) k l)

-- the rows of either shape lie there
pub length_lying : (shape : Shape) (words : List ℕ) (at s : ℕ) → rows shape ≤ length (lying shape words at s)
unfolding lying
length_lying shape words at s = rw (length_list_of (rows shape) (λ k. get_or words (at + k * s) 0)) (le_refl (rows shape))
