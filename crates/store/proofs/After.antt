-- What write and visit leave: the block that they place, and nothing else changed. Assumes nothing.
use Prim.Native.Nat.{ℕ, zero, suc, ◌≤◌}
use mathlib.Core.Path.{◌≡◌, refl, ◌∙◌}
use mathlib.Core.List.{List}
use lib.ListN.{length, get_or}
use Rattle.ground.specs.Choice.{if_zero}
use Rattle.block.specs.Block.{mended_block, valid_block, Fitting}
use Rattle.block.proofs.Blocks.{length_mended, mended_fits}
use Rattle.block.proofs.ValidBlocks.{length_valid, valid_out, valid_fits}
use Rattle.store.specs.Image.{gathered, placed, Untouched}
use Rattle.layout.specs.declared.Layout.{Layout}
use Rattle.layout.specs.Layout.{shape_of, rows_of}
use Rattle.layout.specs.Refusal.{block_refusal}
use Rattle.layout.proofs.Index.{in_range}
use Rattle.layout.proofs.Ladder.{Accepted, accepted}
use Rattle.store.specs.Refusal.{data_refusal}
use Rattle.store.specs.Visit.{visit_after}
use Rattle.store.specs.Write.{write_after}
use Rattle.store.proofs.Image.{length_gathered, gathered_rest, gathered_words, placed_words, same_untouched, placed_untouched, gathered_placed}
use Rattle.store.proofs.Ladder.{data_accepted}
use Rattle.store.proofs.Rows.{mended_past}

-- ---- an image with a block placed where nothing was refused

module _ (layout : Layout) (block : ℕ) (given image : List ℕ) where
  left_untouched : (number : ℕ) → (number ≡ 0 → 1 ≤ layout.s)
      → Untouched layout block image (if_zero number (placed layout block given image) image)
  left_untouched zero first = placed_untouched layout block (first refl) given image
  left_untouched (suc number) first = same_untouched layout block image

  left_words : (number : ℕ) → Fitting given → Fitting image → Fitting (if_zero number (placed layout block given image) image)
  left_words zero small fits = placed_words layout block given image small fits
  left_words (suc number) small fits = fits

-- the block that was placed is gathered
held : {layout : Layout} {len block : ℕ} → Accepted len layout block → (given image : List ℕ) → length image ≡ len → length given ≡ 72
    → ((k : ℕ) → rows_of layout ≤ k → get_or given k 0 ≡ 0)
    → gathered layout block (placed layout block given image) ≡ given
held {layout} {len} {block} ok given image size long rest =
    gathered_placed layout block ok.geometry.s_first given image
    (λ p l h. rw (size, ok.exact) (in_range (rows_of layout) layout.s ok.geometry.s_first layout.g block p ok.inside l h))
    long
    rest

module _ (image : List ℕ) (layout : Layout) (block : ℕ) where
  -- ---- visit

  pub visit_untouched : Untouched layout block image (visit_after image layout block)
  unfolding visit_after
  visit_untouched =
      left_untouched layout block _ image (block_refusal (length image) layout block)
      (λ e. (accepted layout (length image) block e).geometry.s_first)

  pub visit_words_lem : Fitting image → Fitting (visit_after image layout block)
  unfolding visit_after
  visit_words_lem fits =
      left_words layout block _ image (block_refusal (length image) layout block)
      (mended_fits (shape_of layout) _ (gathered_words layout block image fits))
      fits

  pub visit_held : block_refusal (length image) layout block ≡ 0
      → gathered layout block (visit_after image layout block) ≡ mended_block (shape_of layout) (gathered layout block image)
  unfolding visit_after
  visit_held e =
      rw e
      (held (accepted layout (length image) block e) (mended_block (shape_of layout) (gathered layout block image)) image refl
      (length_mended (shape_of layout) (gathered layout block image) ∙ length_gathered layout block image)
      (λ k h. mended_past (shape_of layout) (gathered layout block image) k h ∙ gathered_rest layout block image k h))

  -- ---- write

  module _ (list : List ℕ) where
    ok : data_refusal (length image) layout block (length list) ≡ 0 → Accepted (length image) layout block
    ok e = accepted layout (length image) block (data_accepted (length image) layout block (length list) e).0

    pub write_untouched : Untouched layout block image (write_after image layout block list)
    unfolding write_after
    write_untouched =
        left_untouched layout block _ image (data_refusal (length image) layout block (length list))
        (λ e. (ok e).geometry.s_first)

    pub write_words : Fitting image → Fitting (write_after image layout block list)
    unfolding write_after
    write_words fits =
        left_words layout block _ image (data_refusal (length image) layout block (length list)) (valid_fits (shape_of layout) list) fits

    pub write_held : data_refusal (length image) layout block (length list) ≡ 0
        → gathered layout block (write_after image layout block list) ≡ valid_block (shape_of layout) list
    unfolding write_after
    write_held e =
        rw e
        (held (ok e) (valid_block (shape_of layout) list) image refl (length_valid (shape_of layout) list) (valid_out (shape_of layout) list))
