-- For each choice of data there is exactly one valid block, and it holds the data. Assumes nothing.
use Prim.Native.Nat.{ℕ, zero, suc, ◌-◌, ◌^◌, ◌≤◌, ◌<◌}
use mathlib.Core.Bool.{Bool, false, cond}
use mathlib.Core.Path.{◌≡◌, refl, sym, ap, ◌∙◌}
use mathlib.Core.List.{List}
use mathlib.Core.Logic.{⊎_elim}
use native.Mathlib.Omega.{arith}
use lib.ListN.{length, get_or, get_or-eq_default}
use lib.Pow.{pow_pos}
use borrow.Author.Tests.{lt-ltb, le-ltb}
use Rattle.lane.specs.Bit.{bit}
use Rattle.lane.specs.Rows.{DataRow}
use Rattle.lane.specs.Encoded.{encoded}
use Rattle.lane.proofs.Bits.{bit_zero}
use Rattle.lane.proofs.Linear.{valid_same}
use Rattle.lane.proofs.Rows.{split_below}
use Rattle.lane.proofs.Exactly.{encoded_valid, encoded_data, encoded_only}
use Rattle.lane.proofs.Mended.{valid_empty}
use Rattle.shape.specs.declared.Shape.{Shape}
use Rattle.shape.specs.Shape.{before, rows, digits, words}
use Rattle.sums.specs.Words.{row, lane, word}
use Rattle.block.specs.Block.{ValidBlock, data_block, valid_block, data_of, SameRows, Fitting}
use Rattle.sums.proofs.WordBits.{row_at, bit_number, number_lt, number_bits}
use Rattle.ground.proofs.Lists.{get_or_list_of, length_list_of, list_is}
use Rattle.shape.proofs.Sizes.{before_lt}
use Rattle.block.proofs.Data.{before_digits, row_of_data, entry_row, row_entry, data_hit, data_lt}
use Rattle.block.proofs.Blocks.{rows_same}

module _ (shape : Shape) (list : List ℕ) where
  pub length_valid : length (valid_block shape list) ≡ 72
  unfolding valid_block
  length_valid = length_list_of 72 _

  -- the word of row j + 1
  abbrev coded : ℕ → ℕ
  coded j = word (λ i. encoded (digits shape) (before shape) (lane i (data_block shape list)) (suc j))

  valid_in : (j : ℕ) → j < rows shape → get_or (valid_block shape list) j 0 ≡ coded j
  unfolding valid_block
  valid_in j h = let b = before_lt shape in get_or_list_of 72 _ j (omega arith) ∙ ap (λ (t : Bool). cond t (coded j) 0) (lt-ltb j (rows shape) h)

  -- past the rows it is zero
  pub valid_out : (j : ℕ) → rows shape ≤ j → get_or (valid_block shape list) j 0 ≡ 0
  unfolding valid_block
  valid_out j h =
      ⊎_elim (λ l. get_or_list_of 72 _ j l ∙ ap (λ (t : Bool). cond t (coded j) 0) (le-ltb j (rows shape) h))
      (λ l. get_or-eq_default (valid_block shape list) 0 {n = j} (rw length_valid l)) (split_below j 72)

  pub valid_fits : Fitting (valid_block shape list)
  valid_fits j =
      ⊎_elim (λ h. rw (valid_in j h) (number_lt 32 _)) (λ h. rw (valid_out j h) (pow_pos 32)) (split_below j (rows shape))

  lane_coded : (i : ℕ) → i < 32 → (j : ℕ) → j < rows shape
      → lane i (valid_block shape list) (suc j) ≡ encoded (digits shape) (before shape) (lane i (data_block shape list)) (suc j)
  lane_coded i hi j h = ap (bit i) (valid_in j h) ∙ bit_number 32 i _ hi

  pub valid_is : ValidBlock shape (valid_block shape list)
  valid_is i hi =
      valid_same (before shape) (encoded (digits shape) (before shape) (lane i (data_block shape list))) (lane i (valid_block shape list))
      (λ j h. sym (lane_coded i hi j h)) (encoded_valid (digits shape) (before shape) (lane i (data_block shape list)) (before_digits shape))

  -- its data rows hold the data
  module _ (fit : (k : ℕ) → get_or list k 0 < 2 ^ 32) where
    data_coded : (j : ℕ) → DataRow (before shape) (suc j) → get_or (valid_block shape list) j 0 ≡ get_or (data_block shape list) j 0
    data_coded j d =
        let l = d.last in
        valid_in j (omega arith)
        ∙ sym
        (number_bits 32 (get_or (data_block shape list) j 0) _ (data_lt shape list fit j)
        (λ i hi. sym (encoded_data (digits shape) (before shape) (lane i (data_block shape list)) (before_digits shape) (suc j) d)))

    at_row : (p k : ℕ) → DataRow (before shape) p → row_of_data shape k ≡ p → k < words shape → row p (valid_block shape list) ≡ get_or list k 0
    at_row zero k d e h = let f = d.first in absurd (omega arith)
    at_row (suc j) k d e h =
        data_coded j d
        ∙ sym (row_at (suc j) (data_block shape list) (omega arith))
        ∙ ap (λ (p : ℕ). get_or (data_block shape list) (p - 1) 0) (sym e) ∙ data_hit shape list k h

    pub holds_data : length list ≡ words shape → data_of shape (valid_block shape list) ≡ list
    unfolding data_of
    holds_data e = sym (list_is (words shape) list _ e (λ k h. sym (at_row (row_of_data shape k) k (entry_row shape k h) refl h)))

    -- and it is the only valid block that holds them
    pub valid_only : (block : List ℕ) → Fitting block → ValidBlock shape block → length list ≡ words shape → data_of shape block ≡ list
        → SameRows shape block (valid_block shape list)
    unfolding data_of
    valid_only block f v e d =
        rows_same shape block (valid_block shape list) f valid_fits
        (λ i hi j h.
        encoded_only (digits shape) (before shape) (lane i (data_block shape list)) (before_digits shape) (lane i block) (v i hi) (λ p r. kept i p r) j h
        ∙ sym (lane_coded i hi j h))
      where
        there : (k : ℕ) → k < words shape → row (row_of_data shape k) block ≡ get_or list k 0
        there k h = sym (get_or_list_of (words shape) (λ k. row (row_of_data shape k) block) k h) ∙ ap (λ (l : List ℕ). get_or l k 0) d

        kept : (i p : ℕ) → DataRow (before shape) p → lane i block p ≡ lane i (data_block shape list) p
        kept i zero r = let g = r.first in absurd (omega arith)
        kept i (suc j) r =
            let q = row_entry shape (suc j) r in
            ap (bit i)
            (ap (λ (p : ℕ). row p block) (sym q.2) ∙ there q.0 q.1 ∙ sym (data_hit shape list q.0 q.1)
            ∙ ap (λ (p : ℕ). get_or (data_block shape list) (p - 1) 0) q.2 ∙ row_at (suc j) (data_block shape list) (omega arith))

-- a block whose rows are zero is valid
pub zero_valid : (shape : Shape) (block : List ℕ) → ((j : ℕ) → j < rows shape → get_or block j 0 ≡ 0) → ValidBlock shape block
zero_valid shape block z i hi =
    valid_same (before shape) (λ p. false) (lane i block) (λ j h. sym (ap (bit i) (z j h) ∙ bit_zero i)) (valid_empty (before shape))
