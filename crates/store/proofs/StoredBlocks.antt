-- A block and its stored form hold the same data and differ from others in the same places. Assumes nothing.
use Prim.Native.Nat.{ℕ, zero, suc, ◌≤◌, ◌<◌}
use mathlib.Core.Bool.{Bool}
use mathlib.Core.Path.{◌≡◌, refl, sym, ap, ap₂, ◌∙◌}
use mathlib.Core.List.{List}
use native.Mathlib.Omega.{arith}
use lib.ListN.{length, get_or}
use Rattle.lane.specs.Bit.{bit, ◌⊕◌}
use Rattle.lane.specs.Lane.{apart}
use Rattle.lane.proofs.Bits.{⊕-swap, ⊕-zero}
use Rattle.lane.proofs.Linear.{count_same}
use Rattle.lane.proofs.Mended.{⊕-self}
use Rattle.ground.proofs.Lists.{list_of_same}
use Rattle.ground.proofs.Stores.{stores_agree}
use Rattle.ground.proofs.Totals.{total_same}
use Rattle.shape.specs.declared.Shape.{Shape}
use Rattle.shape.specs.Shape.{before, rows, words}
use Rattle.stored.specs.Stored.{mask, complemented_in, complemented}
use Rattle.stored.proofs.Forms.{word_twice, row_complemented, rest_complemented}
use Rattle.sums.specs.Words.{row, lane}
use Rattle.sums.proofs.StoredSums.{lane_masked}
use Rattle.block.specs.Block.{SameRows, data_of, data_into, bits_changed}
use Rattle.block.proofs.Data.{row_of_data, entry_row}

-- ---- data

module _ (shape : Shape) (block : List ℕ) where
  -- a data row is neither row 1 nor row 2
  data_row : (k : ℕ) → k < words shape → row (row_of_data shape k) (complemented block) ≡ row (row_of_data shape k) block
  data_row k h = let d = entry_row shape k h in past (row_of_data shape k) d.first (λ e. d.no_power 0 e) (λ e. d.no_power 1 e)
    where
      past : (p : ℕ) → 1 ≤ p → (p ≡ 1 → ⊥) → (p ≡ 2 → ⊥) → row p (complemented block) ≡ row p block
      past zero l a b = refl
      past (suc j) l a b = rest_complemented block j (omega (arith, a, b))

  pub data_stored : data_of shape (complemented block) ≡ data_of shape block
  unfolding data_of
  data_stored = list_of_same (words shape) _ _ data_row

  pub copied_stored : (buffer : List ℕ) → data_into shape (complemented block) buffer ≡ data_into shape block buffer
  unfolding data_into
  copied_stored buffer = stores_agree buffer (λ k. k) _ _ (words shape) data_row

-- ---- differences

module _ (shape : Shape) (a b : List ℕ) (a-long : rows shape ≤ length a) (b-long : rows shape ≤ length b) where
  pub apart_stored : (i : ℕ) → apart (before shape) (lane i (complemented a)) (lane i (complemented b)) ≡ apart (before shape) (lane i a) (lane i b)
  apart_stored i =
      count_same (rows shape) _ _
      (λ j h.
      let m = bit i (mask (suc j)) in
      ap₂ ◌⊕◌ (lane_masked shape a a-long i j h) (lane_masked shape b b-long i j h)
      ∙ ⊕-swap (lane i a (suc j)) m (lane i b (suc j)) m
      ∙ ap (λ (x : Bool). lane i a (suc j) ⊕ lane i b (suc j) ⊕ x) (⊕-self m)
      ∙ ⊕-zero (lane i a (suc j) ⊕ lane i b (suc j)))

  pub bits_stored : bits_changed shape (complemented a) (complemented b) ≡ bits_changed shape a b
  unfolding bits_changed
  bits_stored = total_same 32 _ _ (λ i h. apart_stored i)

  -- the same rows in one form are the same in the other
  pub same_stored : SameRows shape (complemented a) (complemented b) → SameRows shape a b
  same_stored same j h =
      sym (word_twice (suc j) (get_or a j 0))
      ∙ ap (complemented_in (suc j)) (sym (row_complemented a j (omega arith)) ∙ same j h ∙ row_complemented b j (omega arith))
      ∙ word_twice (suc j) (get_or b j 0)
