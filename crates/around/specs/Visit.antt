-- A visit around named rows: up to three rows of a block are named as those of a failed chip, and the block is mended around them. Assumes nothing.
use Rattle.std.specs.Prelude.{ℕ, ◌≡◌, List, length, Result}
use Rattle.ground.specs.Choice.{if_zero}
use Rattle.refusal.specs.declared.Refusal.{Refusal}
use Rattle.layout.specs.declared.Layout.{Layout}
use Rattle.layout.specs.Layout.{shape_of}
use Rattle.store.specs.Image.{gathered, placed}
use Rattle.around.specs.declared.Around.{Around}
use Rattle.around.specs.Answer.{to_say_around, AnswersAround}
use Rattle.around.specs.Block.{around_block}
use Rattle.around.specs.Refusal.{around_refusal}

-- the image that it leaves
unfoldable pub around_after : List ℕ → Layout → ℕ → List ℕ → List ℕ
around_after image layout block named =
    if_zero (around_refusal (length image) layout block named)
    (placed layout block (around_block (shape_of layout) named (gathered layout block image)) image)
    image

-- the promise of visit_around: what it answers, that it leaves the list, and the image that it leaves
pub record VisitsAround (image : List ℕ) (layout : Layout) (block : ℕ) (named : List ℕ) (answer : Result Around Refusal) (after kept : List ℕ) : Type 0 where
  pub answers : AnswersAround (around_refusal (length image) layout block named) (to_say_around (shape_of layout) named (gathered layout block image)) answer
  pub leaves : after ≡ around_after image layout block named
  pub keeps : kept ≡ named
