-- Write stores the valid block for a lent list of data words, and touches no other block's words. Assumes nothing.
use Rattle.std.specs.Prelude.{ℕ, ◌≡◌, List, length}
use Rattle.ground.specs.Choice.{if_zero}
use Rattle.block.specs.Block.{valid_block}
use Rattle.block.specs.Verdict.{unsaid}
use Rattle.refusal.specs.Refusal.{answered}
use Rattle.store.specs.Answer.{Stored, stored_said, Answers}
use Rattle.store.specs.Image.{placed}
use Rattle.store.specs.Refusal.{data_refusal}
use Rattle.layout.specs.declared.Layout.{Layout}
use Rattle.layout.specs.Layout.{shape_of}

-- the image that write leaves
unfoldable pub write_after : List ℕ → Layout → ℕ → List ℕ → List ℕ
write_after image layout block list =
    if_zero (data_refusal (length image) layout block (length list))
    (placed layout block (valid_block (shape_of layout) list) image)
    image

-- the promise of write: what it answers, which is no verdict and no counts, and the image that it leaves
pub record Writes (image : List ℕ) (layout : Layout) (block : ℕ) (list : List ℕ) (answer : Stored) (after : List ℕ) : Type 0 where
  pub answers : Answers stored_said (data_refusal (length image) layout block (length list)) unsaid answer
  pub leaves : after ≡ write_after image layout block list

-- the answer itself
unfoldable pub write_answer : List ℕ → Layout → ℕ → List ℕ → Stored
write_answer image layout block list = answered (data_refusal (length image) layout block (length list)) tt
