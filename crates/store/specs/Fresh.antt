-- A fresh image: FFFFFFFF hex in rows 1 and 2 of every block and zero elsewhere, so that every block is the valid block for zero data.
-- Refusals: 1, 2, 3, 4. Assumes nothing.
use Rattle.std.specs.Prelude.{ℕ, ◌*◌, cond, ◌≡◌, List, leb, length}
use Rattle.ground.specs.Choice.{if_zero}
use Rattle.ground.specs.Lists.{list_of}
use Rattle.layout.specs.declared.Layout.{Layout}
use Rattle.layout.specs.Layout.{rows_of, blocks, row_at}
use Rattle.layout.specs.Refusal.{image_refusal}
use Rattle.refusal.specs.Refusal.{answer_number}
use Rattle.store.specs.Answer.{Stored}

-- the word at an index, by the row that it is
abbrev pub fresh_word : Layout → ℕ → ℕ
fresh_word layout at = cond (leb (row_at layout at) 2) 0xFFFFFFFF 0

-- the fresh image of a layout: rows·N such words
unfoldable pub fresh_image : Layout → List ℕ
fresh_image layout = list_of (rows_of layout * blocks layout) (fresh_word layout)

-- the image that is left
unfoldable pub fresh_after : List ℕ → Layout → List ℕ
fresh_after image layout = if_zero (image_refusal (length image) layout) (fresh_image layout) image

-- the promise of fresh: the refusal, if any, and the image that it leaves
pub record Clears (image : List ℕ) (layout : Layout) (answer : Stored) (after : List ℕ) : Type 0 where
  pub answers : answer_number answer ≡ image_refusal (length image) layout
  pub leaves : after ≡ fresh_after image layout
