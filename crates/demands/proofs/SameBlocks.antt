-- Blocks with the same rows have the same lanes and hold the same data. Assumes nothing.
use Prim.Native.Nat.{ℕ, zero, suc, ◌≤◌}
use mathlib.Core.Bool.{false}
use mathlib.Core.Path.{◌≡◌, ap, ◌∙◌}
use mathlib.Core.List.{List}
use native.Mathlib.Omega.{arith}
use lib.ListN.{get_or}
use Rattle.ground.proofs.Lists.{list_of_same}
use Rattle.lane.specs.Bit.{bit, ◌⊕◌}
use Rattle.lane.specs.Lane.{diff, apart}
use Rattle.lane.proofs.Linear.{count_same}
use Rattle.lane.proofs.Mended.{count_empty, ⊕-self}
use Rattle.shape.specs.declared.Shape.{Shape}
use Rattle.shape.specs.Shape.{before, rows, words}
use Rattle.sums.specs.Words.{row, lane}
use Rattle.block.specs.Block.{data_of, SameRows}
use Rattle.block.proofs.Data.{row_of_data, entry_row}

module _ (shape : Shape) (a b : List ℕ) where
  -- in every lane they are not apart
  pub same_apart : SameRows shape a b → (i : ℕ) → apart (before shape) (lane i a) (lane i b) ≡ 0
  same_apart h i =
      count_same (rows shape) (diff (lane i a) (lane i b)) (λ p. false)
      (λ j l. ap (λ (w : ℕ). bit i w ⊕ bit i (get_or b j 0)) (h j l) ∙ ⊕-self (bit i (get_or b j 0)))
      ∙ count_empty (rows shape)

  same_row : SameRows shape a b → (p : ℕ) → 1 ≤ p → p ≤ before shape → row p a ≡ row p b
  same_row h zero l m = absurd (omega arith)
  same_row h (suc j) l m = h j (omega arith)

  -- they hold the same data
  pub same_data : SameRows shape a b → data_of shape a ≡ data_of shape b
  unfolding data_of
  same_data h =
      list_of_same (words shape) (λ k. row (row_of_data shape k) a) (λ k. row (row_of_data shape k) b)
      (λ k l. let d = entry_row shape k l in same_row h (row_of_data shape k) d.first d.last)
