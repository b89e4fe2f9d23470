-- What a caller in C is told of a burst in at most s neighbouring words, or 4·s bytes, of a valid image: visits of every block, in any order, or
-- N turns leave the image as it was, no words of a verdict say lost, and a read gives what the block held. Assumes nothing.
use Rattle.std.specs.Prelude.{ℕ, suc, ◌≤◌, ◌<◌, ◌≡◌, List, [], ◌∷◌, ◌++◌, get_or}
use Rattle.layout.specs.declared.Layout.{Layout}
use Rattle.layout.specs.Layout.{shape_of, blocks}
use Rattle.block.specs.Block.{data_of}
use Rattle.store.specs.Image.{stored_rows}
use Rattle.words.specs.Answers.{visit_width}
use Rattle.foldgrebe.specs.Calls.{ReadCall, VisitCall, TurnCall}
use Rattle.demands.specs.Steps.{Step, turns}
use Rattle.demands.specs.Burst.{Struck, EveryBlock, Sparked}
use Rattle.callers.specs.Handing.{Kept, RanFrom}

-- the blocks of a list are visited one after the other
unfoldable pub VisitCalls : Layout → List ℕ → (image after : List ℕ) → Type 0
VisitCalls layout [] image after = after ≡ image
VisitCalls layout (block ∷ rest) image after =
    (number : ℕ) × (verdict between : List ℕ) × VisitCall image layout block number between verdict × VisitCalls layout rest between after

-- a burst has struck, and some blocks have been visited since
pub record CallerOnTheWay (layout : Layout) (image now : List ℕ) : Type 0 where
  pub spoiled : List ℕ
  pub struck : Struck layout image spoiled
  pub done : List ℕ
  pub visits : VisitCalls layout done spoiled now

-- the first of a verdict's words is that of lost
abbrev pub WordsLost : List ℕ → Type 0
WordsLost verdict = get_or verdict 0 0 ≡ 3

pub record CallerBursts : Type 0 where
  pub restored : {layout : Layout} {image spoiled : List ℕ} → Struck layout image spoiled
      → (order after : List ℕ) → EveryBlock layout order → VisitCalls layout order spoiled after
      → after ≡ image
  pub none_lost : {layout : Layout} {image now : List ℕ} → CallerOnTheWay layout image now
      → {block number : ℕ} {after verdict : List ℕ} → VisitCall now layout block number after verdict
      → WordsLost verdict → ⊥
  pub accepted : {layout : Layout} {image now : List ℕ} → CallerOnTheWay layout image now
      → {block number : ℕ} {after verdict : List ℕ} → VisitCall now layout block number after verdict
      → block < blocks layout
      → number ≡ 0
  pub reads : {layout : Layout} {image now : List ℕ} → CallerOnTheWay layout image now
      → {block number : ℕ} {buffer kept filled verdict : List ℕ} → ReadCall now layout block buffer number kept filled verdict
      → number ≡ 0
      → (WordsLost verdict → ⊥) × (filled ≡ data_of (shape_of layout) (stored_rows layout block image))
  -- N turns after a spark, the record's words handed from call to call, the image is what it was; and no turn's report says lost
  pub round : (image : List ℕ) (layout : Layout) (before spark since : List Step) → Sparked image layout before spark since
      → blocks layout ≤ turns since
      → (earlier now : Kept) → RanFrom image layout before earlier → RanFrom image layout (before ++ spark ++ since) now
      → now.image ≡ earlier.image
  pub turns_none_lost : (image : List ℕ) (layout : Layout) (before spark since : List Step) → Sparked image layout before spark since
      → (now : Kept) → RanFrom image layout (before ++ spark ++ since) now
      → {number : ℕ} {words after report : List ℕ} → TurnCall now.words now.image number words after report
      → (get_or report 1 0 ≡ 3 → ⊥) × (get_or report (suc visit_width) 0 ≡ 3 → ⊥)
