-- Visit does the mending: it says clean, mended or lost, and leaves the block mended, or as it was where a lane is lost. Assumes nothing.
use Rattle.std.specs.Prelude.{ℕ, ◌≡◌, List, length}
use Rattle.ground.specs.Choice.{if_zero}
use Rattle.block.specs.Block.{mended_block}
use Rattle.block.specs.declared.Verdict.{Verdict}
use Rattle.block.specs.declared.Verdict.TheVariants.{Clean}
use Rattle.block.specs.Verdict.{said_of, to_say, verdict_of}
use Rattle.refusal.specs.Refusal.{answered}
use Rattle.store.specs.Answer.{Answer, answer_said, Answers}
use Rattle.store.specs.Image.{gathered, placed}
use Rattle.layout.specs.Refusal.{block_refusal}
use Rattle.layout.specs.declared.Layout.{Layout}
use Rattle.layout.specs.Layout.{shape_of}

-- the image that visit leaves
unfoldable pub visit_after : List ℕ → Layout → ℕ → List ℕ
visit_after image layout block =
    if_zero (block_refusal (length image) layout block)
    (placed layout block (mended_block (shape_of layout) (gathered layout block image)) image)
    image

-- the promise of visit: what it answers, and the image that it leaves
pub record Visits (image : List ℕ) (layout : Layout) (block : ℕ) (answer : Answer) (after : List ℕ) : Type 0 where
  pub answers : Answers answer_said (block_refusal (length image) layout block) (to_say (shape_of layout) (gathered layout block image)) answer
  pub leaves : after ≡ visit_after image layout block

-- the promise of visit_accepted: what is said, clean 0 where the visit is refused, and the image that a visit leaves
pub record VisitsAccepted (image : List ℕ) (layout : Layout) (block : ℕ) (found : Verdict) (after : List ℕ) : Type 0 where
  pub says : said_of found ≡ if_zero (block_refusal (length image) layout block) (to_say (shape_of layout) (gathered layout block image)) (said_of Clean)
  pub leaves : after ≡ visit_after image layout block

-- the answer itself
unfoldable pub visit_answer : List ℕ → Layout → ℕ → Answer
visit_answer image layout block =
    answered (block_refusal (length image) layout block)
    (verdict_of (shape_of layout) (gathered layout block image))
