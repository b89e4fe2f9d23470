-- Read copies the mended data to a lent buffer. It says clean, mended or lost as a visit would. If lost, the buffer stays as it was. Assumes nothing.
use Rattle.std.specs.Prelude.{ℕ, ◌≡◌, List, length}
use Rattle.shape.specs.declared.Shape.{Shape}
use Rattle.ground.specs.Choice.{if_zero}
use Rattle.block.specs.Block.{lanes_lost, mended_block, data_of}
use Rattle.block.specs.Verdict.{to_say, verdict_of}
use Rattle.refusal.specs.Refusal.{answered}
use Rattle.store.specs.Answer.{Answer, answer_said, Answers}
use Rattle.store.specs.Image.{gathered}
use Rattle.store.specs.Refusal.{data_refusal}
use Rattle.layout.specs.declared.Layout.{Layout}
use Rattle.layout.specs.Layout.{shape_of}

-- the mended data of a gathered block; the buffer as it was where a lane is lost
unfoldable pub mended_data : Shape → List ℕ → List ℕ → List ℕ
mended_data shape block buffer = if_zero (lanes_lost shape block) (data_of shape (mended_block shape block)) buffer

-- the buffer that read leaves
unfoldable pub read_buffer : List ℕ → Layout → ℕ → List ℕ → List ℕ
read_buffer image layout block buffer =
    if_zero (data_refusal (length image) layout block (length buffer))
    (mended_data (shape_of layout) (gathered layout block image) buffer)
    buffer

-- the promise of read: what it answers, that it leaves the image, and the buffer that it leaves
pub record Reads (image : List ℕ) (layout : Layout) (block : ℕ) (buffer : List ℕ) (answer : Answer) (kept after : List ℕ) : Type 0 where
  pub answers : Answers answer_said (data_refusal (length image) layout block (length buffer)) (to_say (shape_of layout) (gathered layout block image)) answer
  pub keeps : kept ≡ image
  pub leaves : after ≡ read_buffer image layout block buffer

-- the answer itself
unfoldable pub read_answer : List ℕ → Layout → ℕ → List ℕ → Answer
read_answer image layout block buffer =
    answered (data_refusal (length image) layout block (length buffer))
    (verdict_of (shape_of layout) (gathered layout block image))
