-- Every block of the fresh image is the valid block for zero data. Assumes nothing.
use Prim.Native.Nat.{ℕ, zero, suc, ◌*◌, ◌≤◌, ◌<◌}
use mathlib.Core.Path.{◌≡◌, refl, sym, ap, ◌∙◌}
use mathlib.Core.List.{List}
use mathlib.Core.Logic.{⊎_elim}
use native.Mathlib.Omega.{arith}
use lib.Bits.{xor_self}
use lib.ListN.{length, get_or, replicate, length-replicate, get_or-eq_default}
use lib.Pow.{pow_pos}
use Rattle.ground.specs.Lists.{list_of}
use Rattle.ground.proofs.Lists.{zeros_at, length_list_of, get_or_list_of, list_is, list_of_same}
use Rattle.lane.proofs.Rows.{split_below}
use Rattle.shape.specs.declared.Shape.{Shape}
use Rattle.shape.specs.Shape.{before, rows, words}
use Rattle.sums.specs.Words.{row}
use Rattle.block.specs.Block.{valid_block, data_of, SameRows, Fitting}
use Rattle.block.proofs.Data.{row_of_data, entry_row}
use Rattle.block.proofs.ValidBlocks.{valid_only, zero_valid}
use Rattle.layout.specs.declared.Layout.{Layout}
use Rattle.layout.specs.Layout.{shape_of, rows_of, words_of, blocks, index, row_at}
use Rattle.layout.specs.Refusal.{layout_refusal}
use Rattle.layout.proofs.RowsInside.{row_in_range, row_at_index}
use Rattle.layout.proofs.Ladder.{geometry}
use Rattle.stored.specs.Stored.{mask, complemented_in, complemented_image}
use Rattle.stored.proofs.Forms.{mask_fits}
use Rattle.store.specs.Image.{gathered}
use Rattle.store.specs.Fresh.{fresh_word, fresh_image}
use Rattle.store.proofs.Image.{gathered_row, gathered_words}

pub zeros_fit : (n : ℕ) → Fitting (replicate n 0)
zeros_fit n k = rw (zeros_at n k) (pow_pos 32)

-- a block of zeros is the valid block for data of zeros
module _ (shape : Shape) (block : List ℕ) (fits : Fitting block) (none : (j : ℕ) → j < rows shape → get_or block j 0 ≡ 0) where
  none_there : (p : ℕ) → 1 ≤ p → p ≤ before shape → row p block ≡ 0
  none_there zero l m = refl
  none_there (suc j) l m = none j (omega arith)

  zeros_data : data_of shape block ≡ replicate (words shape) 0
  unfolding data_of
  zeros_data =
      sym
      (list_is (words shape) (replicate (words shape) 0) (λ k. row (row_of_data shape k) block) (length-replicate (words shape) 0)
      (λ k h. let d = entry_row shape k h in zeros_at (words shape) k ∙ sym (none_there (row_of_data shape k) d.first d.last)))

  pub zeros_block : SameRows shape block (valid_block shape (replicate (words shape) 0))
  zeros_block =
      valid_only shape (replicate (words shape) 0) (zeros_fit (words shape)) block fits (zero_valid shape block none)
      (length-replicate (words shape) 0)
      zeros_data

-- ---- the fresh image

module _ (layout : Layout) where
  pub length_fresh : length (fresh_image layout) ≡ rows_of layout * blocks layout
  unfolding fresh_image
  length_fresh = length_list_of (rows_of layout * blocks layout) (fresh_word layout)

  -- a fresh image is that of zeros, as it is stored
  pub fresh_stored : complemented_image layout (replicate (rows_of layout * blocks layout) 0) ≡ fresh_image layout
  unfolding complemented_image fresh_image
  fresh_stored =
      let words = rows_of layout * blocks layout in
      let zeros : List ℕ = replicate words 0 in
      let size : length zeros ≡ words = length-replicate words 0 in
      ap (λ (n : ℕ). list_of n (λ at. complemented_in (row_at layout at) (get_or zeros at 0))) size
      ∙ list_of_same words _ (fresh_word layout) (λ at h. ap (complemented_in (row_at layout at)) (zeros_at words at))

  pub fresh_words : Fitting (fresh_image layout)
  unfolding fresh_image
  fresh_words k =
      ⊎_elim (λ l. rw (get_or_list_of (rows_of layout * blocks layout) (fresh_word layout) k l) (mask_fits (row_at layout k)))
      (λ l. rw (get_or-eq_default (fresh_image layout) 0 {n = k} (rw length_fresh l)) (pow_pos 32))
      (split_below k (rows_of layout * blocks layout))

  module _ (accepted : layout_refusal layout ≡ 0) (block : ℕ) (inside : block < blocks layout) where
    -- a row of a block of it
    pub fresh_word_lem : (j : ℕ) → j < rows_of layout → get_or (fresh_image layout) (index layout block (suc j)) 0 ≡ mask (suc j)
    unfolding fresh_image
    fresh_word_lem j h =
        let first = (geometry layout accepted).s_first in
        get_or_list_of (rows_of layout * blocks layout) (fresh_word layout) (index layout block (suc j))
        (row_in_range layout first block (suc j) inside (omega arith) h)
        ∙ ap mask (row_at_index layout first block j h)

    -- as the code has it, it is zero
    fresh_row : (j : ℕ) → j < rows_of layout → get_or (gathered layout block (fresh_image layout)) j 0 ≡ 0
    fresh_row j h =
        gathered_row layout block (fresh_image layout) j h ∙ ap (complemented_in (suc j)) (fresh_word_lem j h) ∙ xor_self (mask (suc j))

    pub fresh_block : SameRows (shape_of layout) (gathered layout block (fresh_image layout)) (valid_block (shape_of layout) (replicate (words_of layout) 0))
    fresh_block =
        zeros_block (shape_of layout) (gathered layout block (fresh_image layout)) (gathered_words layout block (fresh_image layout) fresh_words) fresh_row
