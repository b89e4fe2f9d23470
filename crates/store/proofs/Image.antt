-- Blocks of an image: what is placed is what is gathered, no other block's words and no other word change, and words stay words. Assumes nothing.
use Prim.Native.Nat.{ℕ, suc, ◌^◌, ◌≤◌, ◌<◌}
use mathlib.Core.Path.{◌≡◌, refl, sym, ap, ◌∙◌, fun_ext}
use mathlib.Core.List.{List}
use mathlib.Core.Bool.{Bool}
use native.Mathlib.Omega.{arith}
use native.Mathlib.Decide.{dec_lt}
use lib.ListN.{length, get_or}
use lib.Pow.{pow_pos}
use lib.Seq.{ext_get_or}
use Rattle.stored.specs.Stored.{mask, complemented_in, complemented}
use Rattle.stored.proofs.Forms.{length_complemented, row_complemented, rest_complemented, complemented_fits, complemented_twice}
use Rattle.lane.specs.Bit.{bit, ◌⊕◌}
use Rattle.lane.proofs.Bits.{bit_of_xor}
use Rattle.sums.specs.Words.{lane}
use Rattle.block.specs.Block.{blank, Fitting}
use Rattle.ground.proofs.Lists.{zeros_at}
use Rattle.ground.proofs.Stores.{length_stores, stores_miss, stores_hit, stores_agree, stores_same, stores_all}
use Rattle.ground.specs.Stores.{stores}
use Rattle.shape.proofs.Sizes.{rows_fit, rows_least}
use Rattle.layout.specs.declared.Layout.{Layout}
use Rattle.layout.specs.Layout.{shape_of, rows_of, index}
use Rattle.store.specs.Image.{stored_rows, with_rows, gathered, placed, Untouched}
use Rattle.store.specs.Inner.{stride_read, stride_write, taken, put}
use Rattle.layout.proofs.Index.{stride, one_to_one}

-- ---- the stored rows of one block

module _ (layout : Layout) (block : ℕ) where
  pub length_rows : (image : List ℕ) → length (stored_rows layout block image) ≡ 72
  unfolding stored_rows
  length_rows image = length_stores blank (λ k. k) (λ k. get_or image (index layout block (suc k)) 0) (rows_of layout)

  -- the words past the last row are 0
  pub rows_rest : (image : List ℕ) (k : ℕ) → rows_of layout ≤ k → get_or (stored_rows layout block image) k 0 ≡ 0
  unfolding stored_rows
  rows_rest image k h =
      stores_miss blank (λ k. k) (λ k. get_or image (index layout block (suc k)) 0) k (rows_of layout) (λ j hj e. omega arith)
      ∙ zeros_at 72 k

  pub rows_row : (image : List ℕ) (k : ℕ) → k < rows_of layout → get_or (stored_rows layout block image) k 0 ≡ get_or image (index layout block (suc k)) 0
  unfolding stored_rows
  rows_row image k h =
      stores_hit blank (λ k. k) (λ k. get_or image (index layout block (suc k)) 0) k (rows_of layout) (λ j hj e. e) h
      (omega (arith, rows_fit (shape_of layout)))

  pub rows_words : (image : List ℕ) → Fitting image → Fitting (stored_rows layout block image)
  unfolding stored_rows
  rows_words image words =
      stores_all (λ w. w < 2 ^ 32) blank (λ k. k) (λ k. get_or image (index layout block (suc k)) 0) (rows_of layout)
      (λ i. rw (zeros_at 72 i) (pow_pos 32))
      (λ k h. words (index layout block (suc k)))

  length_put : (given image : List ℕ) → length (with_rows layout block given image) ≡ length image
  unfolding with_rows
  length_put given image = length_stores image (λ k. index layout block (suc k)) (λ k. get_or given k 0) (rows_of layout)

  put_words : (given image : List ℕ) → Fitting given → Fitting image → Fitting (with_rows layout block given image)
  unfolding with_rows
  put_words given image small words =
      stores_all (λ w. w < 2 ^ 32) image (λ k. index layout block (suc k)) (λ k. get_or given k 0) (rows_of layout) words (λ k h. small k)

  -- placing what was gathered changes nothing
  put_rows : (image : List ℕ) → with_rows layout block (stored_rows layout block image) image ≡ image
  unfolding with_rows
  put_rows image =
      stores_same image (λ k. index layout block (suc k)) (λ k. get_or (stored_rows layout block image) k 0) (rows_of layout) (rows_row image)

  -- a word that is no row of the block is as it was
  put_elsewhere : (given image : List ℕ) (i : ℕ)
      → ((p : ℕ) → 1 ≤ p → p ≤ rows_of layout → i ≡ index layout block p → ⊥)
      → get_or (with_rows layout block given image) i 0 ≡ get_or image i 0
  unfolding with_rows
  put_elsewhere given image i none =
      stores_miss image (λ k. index layout block (suc k)) (λ k. get_or given k 0) i (rows_of layout) (λ k h. none (suc k) (omega arith) h)

  -- rows a stride apart from the first
  rows_stride : (image : List ℕ) → stride_read image (index layout block 1) layout.s blank (rows_of layout) ≡ stored_rows layout block image
  unfolding stored_rows stride_read
  rows_stride image =
      ap (λ (f : ℕ → ℕ). stores blank (λ k. k) (λ k. get_or image (f k) 0) (rows_of layout)) (fun_ext (λ k. sym (stride (rows_of layout) layout.s block k)))

  put_stride : (given image : List ℕ) → stride_write image (index layout block 1) layout.s given (rows_of layout) ≡ with_rows layout block given image
  unfolding with_rows stride_write
  put_stride given image =
      ap (λ (f : ℕ → ℕ). stores image f (λ k. get_or given k 0) (rows_of layout)) (fun_ext (λ k. sym (stride (rows_of layout) layout.s block k)))

-- ---- the block of the code

module _ (layout : Layout) (block : ℕ) where
  pub length_gathered : (image : List ℕ) → length (gathered layout block image) ≡ 72
  unfolding gathered
  length_gathered image = length_complemented (stored_rows layout block image) ∙ length_rows layout block image

  -- the words past the last row are 0
  pub gathered_rest : (image : List ℕ) (k : ℕ) → rows_of layout ≤ k → get_or (gathered layout block image) k 0 ≡ 0
  unfolding gathered
  gathered_rest image k h =
      rest_complemented (stored_rows layout block image) k (omega (arith, rows_least (shape_of layout))) ∙ rows_rest layout block image k h

  pub gathered_row : (image : List ℕ) (k : ℕ) → k < rows_of layout
      → get_or (gathered layout block image) k 0 ≡ complemented_in (suc k) (get_or image (index layout block (suc k)) 0)
  unfolding gathered
  gathered_row image k h =
      row_complemented (stored_rows layout block image) k (omega (arith, length_rows layout block image, rows_fit (shape_of layout)))
      ∙ ap (complemented_in (suc k)) (rows_row layout block image k h)

  -- a bit of a row goes by the bit that is stored
  pub same_bit : (i : ℕ) (a b : List ℕ) (k : ℕ) → k < rows_of layout
      → bit i (get_or a (index layout block (suc k)) 0) ≡ bit i (get_or b (index layout block (suc k)) 0)
      → lane i (gathered layout block a) (suc k) ≡ lane i (gathered layout block b) (suc k)
  same_bit i a b k h e =
      let m = bit i (mask (suc k)) in
      let from : (image : List ℕ) → lane i (gathered layout block image) (suc k) ≡ bit i (get_or image (index layout block (suc k)) 0) ⊕ m =
      λ image. ap (bit i) (gathered_row image k h) ∙ bit_of_xor i (get_or image (index layout block (suc k)) 0) (mask (suc k)) in
      from a ∙ ap (λ (x : Bool). x ⊕ m) e ∙ sym (from b)

  pub gathered_words : (image : List ℕ) → Fitting image → Fitting (gathered layout block image)
  unfolding gathered
  gathered_words image words = complemented_fits (stored_rows layout block image) (rows_words layout block image words)

  pub length_placed : (given image : List ℕ) → length (placed layout block given image) ≡ length image
  unfolding placed
  length_placed given image = length_put layout block (complemented given) image

  pub placed_words : (given image : List ℕ) → Fitting given → Fitting image → Fitting (placed layout block given image)
  unfolding placed
  placed_words given image small words = put_words layout block (complemented given) image (complemented_fits given small) words

  -- placing what was gathered changes nothing
  pub placed_gathered : (image : List ℕ) → placed layout block (gathered layout block image) image ≡ image
  unfolding placed gathered
  placed_gathered image =
      ap (λ (given : List ℕ). with_rows layout block given image) (complemented_twice (stored_rows layout block image)) ∙ put_rows layout block image

  -- a word that is no row of the block is as it was
  pub placed_elsewhere : (given image : List ℕ) (i : ℕ)
      → ((p : ℕ) → 1 ≤ p → p ≤ rows_of layout → i ≡ index layout block p → ⊥)
      → get_or (placed layout block given image) i 0 ≡ get_or image i 0
  unfolding placed
  placed_elsewhere given image = put_elsewhere layout block (complemented given) image

  -- rows a stride apart from the first
  pub gathered_stride : (image : List ℕ) → taken (shape_of layout) image (index layout block 1) layout.s ≡ gathered layout block image
  unfolding gathered
  gathered_stride image = ap complemented (rows_stride layout block image)

  pub placed_stride : (given image : List ℕ) → put (shape_of layout) image (index layout block 1) layout.s given ≡ placed layout block given image
  unfolding placed
  placed_stride given image = put_stride layout block (complemented given) image

-- ---- one block beside another

module _ (layout : Layout) (block : ℕ) where
  pub same_untouched : (image : List ℕ) → Untouched layout block image image
  same_untouched image = record { size = refl; elsewhere = λ i none. refl; others = λ other ne. refl }

  pub placed_untouched : 1 ≤ layout.s → (given image : List ℕ) → Untouched layout block image (placed layout block given image)
  unfolding gathered stored_rows
  placed_untouched first given image =
      record {
        size = length_placed layout block given image;
        elsewhere = placed_elsewhere layout block given image;
        others = λ other ne.
            ap complemented (stores_agree blank (λ k. k) _ _ (rows_of layout)
            (λ k h.
            placed_elsewhere layout block given image (index layout other (suc k))
            (λ p l m e. ne (one_to_one (rows_of layout) layout.s first other (suc k) block p (omega arith) h l m e).0)));
      }

  -- what was placed is gathered again
  pub gathered_placed : 1 ≤ layout.s → (given image : List ℕ)
      → ((p : ℕ) → 1 ≤ p → p ≤ rows_of layout → index layout block p < length image)
      → length given ≡ 72
      → ((k : ℕ) → rows_of layout ≤ k → get_or given k 0 ≡ 0)
      → gathered layout block (placed layout block given image) ≡ given
  unfolding placed gathered
  gathered_placed first given image inside len rest =
      ap complemented
      (put_back (complemented given) (length_complemented given ∙ len)
      (λ k h. rest_complemented given k (omega (arith, rows_least (shape_of layout))) ∙ rest k h))
      ∙ complemented_twice given
    where
      put_back : (given : List ℕ) → length given ≡ 72 → ((k : ℕ) → rows_of layout ≤ k → get_or given k 0 ≡ 0)
          → stored_rows layout block (with_rows layout block given image) ≡ given
      put_back given len rest =
          ext_get_or 0 _ given (length_rows layout block (with_rows layout block given image) ∙ sym len)
          (λ k h. elim (dec_lt k (rows_of layout)) [
            | yes l ↦ rows_row layout block (with_rows layout block given image) k l
                ∙ unfold with_rows in stores_hit image (λ k. index layout block (suc k)) (λ k. get_or given k 0) k (rows_of layout)
                (λ j hj e.
                let q = (one_to_one (rows_of layout) layout.s first block (suc k) block (suc j) (omega arith) l (omega arith) hj e).1 in omega arith)
                l
                (inside (suc k) (omega arith) l)
            | no l ↦ rows_rest layout block (with_rows layout block given image) k (omega arith) ∙ sym (rest k (omega arith))
          ])
