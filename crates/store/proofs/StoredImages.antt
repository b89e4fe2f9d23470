-- An image with rows 1 and 2 of every block complemented: its stored rows are the code's, and rows are put there as they are elsewhere.
-- Assumes nothing.
use Prim.Native.Nat.{ℕ, zero, suc, ◌≤◌, ◌<◌}
use mathlib.Core.Path.{◌≡◌, refl, sym, ap, ap₂, ◌∙◌}
use mathlib.Core.List.{List}
use mathlib.Core.Logic.{⊎_elim, by_cases}
use native.Mathlib.Decide.{ℕ_discrete, dec_lt}
use native.Mathlib.Omega.{arith}
use lib.ListN.{length, get_or, set, length-set}
use lib.Seq.{ext_get_or, set_out, get_or-set_same, get_or-set_other}
use Rattle.lane.proofs.Rows.{split_below}
use Rattle.ground.specs.Stores.{stores}
use Rattle.ground.proofs.Stores.{stores_agree}
use Rattle.shape.proofs.Sizes.{rows_fit, rows_least}
use Rattle.layout.specs.declared.Layout.{Layout}
use Rattle.layout.specs.Layout.{shape_of, rows_of, index, row_at}
use Rattle.layout.proofs.RowsInside.{row_at_index}
use Rattle.stored.specs.Stored.{complemented_in, complemented, complemented_image}
use Rattle.stored.proofs.Forms.{length_complemented, row_complemented, rest_complemented, complemented_twice, length_image, word_image}
use Rattle.store.specs.Image.{stored_rows, with_rows, gathered, placed}
use Rattle.store.proofs.Image.{length_rows, rows_rest, rows_row}

module _ (layout : Layout) (first : 1 ≤ layout.s) where
  module _ (block : ℕ) (image : List ℕ) (inside : (k : ℕ) → k < rows_of layout → index layout block (suc k) < length image) where
    rows_complemented : stored_rows layout block (complemented_image layout image) ≡ complemented (stored_rows layout block image)
    rows_complemented =
        let stored = stored_rows layout block image in
        let other = complemented_image layout image in
        let size = length_rows layout block image in
        ext_get_or 0 _ _ (length_rows layout block other ∙ sym size ∙ sym (length_complemented stored))
        (λ k h. elim (dec_lt k (rows_of layout)) [
          | yes l ↦ rows_row layout block other k l
              ∙ word_image layout image (index layout block (suc k)) (inside k l)
              ∙ ap₂ complemented_in (row_at_index layout first block k l) (sym (rows_row layout block image k l))
              ∙ sym (row_complemented stored k (omega (arith, size, rows_fit (shape_of layout))))
          | no l ↦ rows_rest layout block other k (omega arith)
              ∙ sym (rest_complemented stored k (omega (arith, rows_least (shape_of layout))) ∙ rows_rest layout block image k (omega arith))
        ])

    -- the code's block there is what is stored here
    pub gathered_complemented : gathered layout block (complemented_image layout image) ≡ stored_rows layout block image
    unfolding gathered
    gathered_complemented = ap complemented rows_complemented ∙ complemented_twice (stored_rows layout block image)

  -- ---- one word, and the rows of a block

  set_complemented : (image : List ℕ) (at word : ℕ)
      → complemented_image layout (set image at word) ≡ set (complemented_image layout image) at (complemented_in (row_at layout at) word)
  set_complemented image at word =
      ⊎_elim there
      (λ h.
      ap (complemented_image layout) (set_out image at word h)
      ∙ sym (set_out (complemented_image layout image) at _ (rw (length_image layout image) h)))
      (split_below at (length image))
    where
      changed : List ℕ
      changed = set image at word

      there : at < length image → complemented_image layout changed ≡ set (complemented_image layout image) at (complemented_in (row_at layout at) word)
      there h =
          ext_get_or 0 _ _
          (length_image layout changed ∙ length-set image at word ∙ sym (length-set (complemented_image layout image) at _ ∙ length_image layout image))
          (λ i b.
          let l : i < length image = omega (arith, length_image layout changed, length-set image at word) in
          word_image layout changed i (rw (length-set image at word) l)
          ∙ by_cases (ℕ_discrete i at)
          (λ e.
          rw e
          (ap (complemented_in (row_at layout at)) (get_or-set_same image at word 0 h)
          ∙ sym (get_or-set_same (complemented_image layout image) at _ 0 (rw (length_image layout image) h))))
          (λ ne.
          ap (complemented_in (row_at layout i)) (get_or-set_other image at i word 0 ne)
          ∙ sym (word_image layout image i l)
          ∙ sym (get_or-set_other (complemented_image layout image) at i _ 0 ne)))

  stores_complemented : (image : List ℕ) (f v : ℕ → ℕ) (n : ℕ)
      → complemented_image layout (stores image f v n) ≡ stores (complemented_image layout image) f (λ k. complemented_in (row_at layout (f k)) (v k)) n
  unfolding stores
  stores_complemented image f v zero = refl
  stores_complemented image f v (suc n) =
      set_complemented (stores image f v n) (f n) (v n)
      ∙ ap (λ (l : List ℕ). set l (f n) (complemented_in (row_at layout (f n)) (v n))) (stores_complemented image f v n)

  -- a block of the code that is placed there is stored here
  pub placed_complemented : (block : ℕ) (given image : List ℕ) → rows_of layout ≤ length given
      → placed layout block given (complemented_image layout image) ≡ complemented_image layout (with_rows layout block given image)
  unfolding placed with_rows
  placed_complemented block given image long =
      stores_agree (complemented_image layout image) (λ k. index layout block (suc k)) _ _ (rows_of layout)
      (λ k h. row_complemented given k (omega arith) ∙ ap (λ (p : ℕ). complemented_in p (get_or given k 0)) (sym (row_at_index layout first block k h)))
      ∙ sym (stores_complemented image (λ k. index layout block (suc k)) (λ k. get_or given k 0) (rows_of layout))
