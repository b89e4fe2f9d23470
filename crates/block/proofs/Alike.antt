-- Blocks with the same rows have the same sums, the same doubtful lanes and the same data. Assumes nothing.
use Prim.Native.Nat.{ℕ, zero, suc}
use mathlib.Core.Bool.{Bool, not, ◌||◌}
use mathlib.Core.Path.{◌≡◌, ap, ap₂}
use mathlib.Core.List.{List}
use native.Mathlib.Omega.{arith}
use lib.Dec.{eqb}
use Rattle.lane.specs.Bit.{bit}
use Rattle.lane.specs.Lane.{sum, odd}
use Rattle.lane.specs.Rows.{DataRow}
use Rattle.lane.proofs.Linear.{sum_same, count_same}
use Rattle.ground.proofs.Stores.{stores_agree}
use Rattle.shape.specs.declared.Shape.{Shape}
use Rattle.shape.specs.Shape.{before, rows, words}
use Rattle.sums.specs.Words.{row, lane, word}
use Rattle.block.specs.Block.{SameRows, data_into}
use Rattle.sums.specs.Sums.{sums_of, doubtful}
use Rattle.sums.proofs.WordBits.{number_same}
use Rattle.sums.proofs.RowSums.{same_eight}
use Rattle.block.proofs.Data.{row_of_data, entry_row}

module _ (shape : Shape) (a b : List ℕ) (same : SameRows shape a b) where
  sum_alike : (i : ℕ) → sum (before shape) (lane i a) ≡ sum (before shape) (lane i b)
  sum_alike i = sum_same (before shape) (lane i a) (lane i b) (λ j h. ap (bit i) (same j (omega arith)))

  odd_alike : (i : ℕ) → odd (rows shape) (lane i a) ≡ odd (rows shape) (lane i b)
  odd_alike i = ap (bit 0) (count_same (rows shape) (lane i a) (lane i b) (λ j h. ap (bit i) (same j h)))

  digit_alike : (k : ℕ) → word (λ i. bit k (sum (before shape) (lane i a))) ≡ word (λ i. bit k (sum (before shape) (lane i b)))
  digit_alike k = number_same 32 _ _ (λ i h. ap (bit k) (sum_alike i))

  pub sums_alike : sums_of shape a ≡ sums_of shape b
  unfolding sums_of
  sums_alike =
      same_eight (digit_alike 0) (digit_alike 1) (digit_alike 2) (digit_alike 3) (digit_alike 4) (digit_alike 5) (digit_alike 6)
      (number_same 32 _ _ (λ i h. odd_alike i))

  pub doubt_alike : doubtful shape a ≡ doubtful shape b
  unfolding doubtful
  doubt_alike = number_same 32 _ _ (λ i h. ap₂ (λ (s : ℕ) (o : Bool). not (eqb s 0) || o) (sum_alike i) (odd_alike i))

  row_alike : (p : ℕ) → DataRow (before shape) p → row p a ≡ row p b
  row_alike zero d = let f = d.first in absurd (omega arith)
  row_alike (suc j) d = let l = d.last in same j (omega arith)

  pub data_alike : (buffer : List ℕ) → data_into shape a buffer ≡ data_into shape b buffer
  unfolding data_into
  data_alike buffer = stores_agree buffer (λ k. k) _ _ (words shape) (λ k h. row_alike (row_of_data shape k) (entry_row shape k h))
