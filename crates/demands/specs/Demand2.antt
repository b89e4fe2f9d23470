-- Demand 2: a visit leaves the one valid block that differs in at most one bit a lane, and says lost exactly if there is none, with the
-- lanes lost with even parity and those lost with an odd sum beyond the rows;
-- a write stores the one valid block for its data; a read answers as a visit would, gives the mended data and leaves the image;
-- a turn passes on what its visits answer. Blocks are said here as they are stored, and are valid if the code's are: rows 1 and 2 complemented.
-- Assumes nothing.
use Rattle.std.specs.Prelude.{ℕ, ◌+◌, ◌≤◌, ◌<◌, Bool, true, ◌≡◌, List, [], ◌∷◌, ◌⊎◌, ◌↔◌, length}
use Rattle.ground.specs.Totals.{total}
use Rattle.lane.specs.Bit.{pick}
use Rattle.lane.specs.Decision.{Kind, even, beyond, LostAs, NoneNear}
use Rattle.shape.specs.declared.Shape.{Shape}
use Rattle.shape.specs.declared.Shape.TheVariants.{One}
use Rattle.shape.specs.Shape.{before, rows}
use Rattle.stored.specs.Stored.{complemented}
use Rattle.sums.specs.Words.{lane}
use Rattle.block.specs.Block.{ValidBlock, data_of, bits_changed, Near, SameRows, Fitting}
use Rattle.layout.specs.declared.Layout.{Layout}
use Rattle.layout.specs.Layout.{shape_of, rows_of}
use Rattle.store.specs.Answer.{Answer, Stored}
use Rattle.store.specs.Answer.{answer_said}
use Rattle.refusal.specs.Refusal.{answer_number}
use Rattle.store.specs.Image.{stored_rows, Untouched}
use Rattle.store.specs.Write.{Writes}
use Rattle.store.specs.Read.{Reads}
use Rattle.store.specs.Visit.{Visits}
use Rattle.rota.specs.Line.{asks_of}
use Rattle.patrol.specs.declared.Record.{Record}
use Rattle.patrol.specs.declared.Turned.{Turned}
use Rattle.patrol.specs.Numbers.{unseen, report_number, report_first, report_second}
use Rattle.patrol.specs.Turn.{Turns}

-- a stored block is valid
abbrev pub ValidStored : Shape → List ℕ → Type 0
ValidStored shape stored = ValidBlock shape (complemented stored)

-- what a found block may have been meant to be: a valid block that differs from it in at most one bit a lane
pub record Meant (shape : Shape) (found meant : List ℕ) : Type 0 where
  pub whole : rows shape ≤ length meant
  pub words : Fitting meant
  pub valid : ValidStored shape meant
  pub near : Near shape found meant

-- the verdicts are numbered 1 clean, 2 mended, 3 lost
abbrev pub SaysClean : Answer → Type 0
SaysClean answer = (answer_said answer).verdict ≡ 1

abbrev pub SaysMended : Answer → Type 0
SaysMended answer = (answer_said answer).verdict ≡ 2

abbrev pub SaysLost : Answer → Type 0
SaysLost answer = (answer_said answer).verdict ≡ 3

-- a lane of a block is lost: no valid lane is within one row of it
abbrev pub LaneLost : Shape → List ℕ → ℕ → Type 0
LaneLost shape found i = NoneNear (before shape) (lane i (complemented found))

-- it is of a kind: even with a sum that is not 0, or odd with a sum of rows or more
abbrev pub LaneLostAs : Kind → Shape → List ℕ → ℕ → Type 0
LaneLostAs kind shape found i = LostAs kind (before shape) (lane i (complemented found))

-- so many of the 32 lanes are such
pub record CountsLanes (count : ℕ) (Such : ℕ → Type 0) : Type 0 where
  pub such? : ℕ → Bool
  pub exactly : (i : ℕ) → i < 32 → (such? i ≡ true) ↔ Such i
  pub counted : count ≡ total 32 (λ i. pick (such? i) 1)

-- ---- one block, as it was found and as it was left

pub record Mends (shape : Shape) (found left : List ℕ) (answer : Answer) : Type 0 where
  -- not lost: what is left is the block that was meant, and the count is the bits that differ before and after
  pub mended : (SaysLost answer → ⊥) → Meant shape found left
  pub count : (SaysLost answer → ⊥) → (answer_said answer).count ≡ bits_changed shape found left
  pub no_beyond : (SaysLost answer → ⊥) → (answer_said answer).beyond ≡ 0
  -- there is never a second one
  pub only : (other : List ℕ) → Meant shape found other → SameRows shape other left
  -- lost exactly if there is none; the two counts are the lanes that are even with a sum, and those that are odd with a sum of rows or more
  pub lost : SaysLost answer ↔ ((other : List ℕ) → Meant shape found other → ⊥)
  pub lanes_even : SaysLost answer → CountsLanes (answer_said answer).count (LaneLostAs even shape found)
  pub lanes_beyond : SaysLost answer → CountsLanes (answer_said answer).beyond (LaneLostAs beyond shape found)
  -- these are the lost lanes, and together the counts are all of them; in shape 1 no sum is beyond the rows
  pub kinds : (i : ℕ) → LaneLost shape found i ↔ (LaneLostAs even shape found i ⊎ LaneLostAs beyond shape found i)
  pub lanes : SaysLost answer → CountsLanes ((answer_said answer).count + (answer_said answer).beyond) (LaneLost shape found)
  pub one_no_beyond : shape ≡ One → (answer_said answer).beyond ≡ 0
  -- not clean: the two counts together, of which a mend has one, are from 1 to 32
  pub range : (SaysClean answer → ⊥) → (1 ≤ (answer_said answer).count + (answer_said answer).beyond)
      × ((answer_said answer).count + (answer_said answer).beyond ≤ 32)
  -- clean exactly if the block was valid, and the count is then 0
  pub clean : SaysClean answer ↔ ValidStored shape found
  pub clean_count : SaysClean answer → (answer_said answer).count ≡ 0
  -- mended where it is neither
  pub else_mended : (SaysClean answer → ⊥) → (SaysLost answer → ⊥) → SaysMended answer

-- ---- the calls, accepted

pub record Visiting (image : List ℕ) (layout : Layout) (block : ℕ) (answer : Answer) (after : List ℕ) : Type 0 where
  pub mends : Mends (shape_of layout) (stored_rows layout block image) (stored_rows layout block after) answer
  -- not one word is altered but where the block is mended, and no other block's words then
  pub lost_unaltered : SaysLost answer → after ≡ image
  pub clean_unaltered : SaysClean answer → after ≡ image
  pub untouched : Untouched layout block image after
  -- what is left are 32-bit words again, so that the demand holds of a visit after it
  pub words : Fitting after

pub record Writing (image : List ℕ) (layout : Layout) (block : ℕ) (list after : List ℕ) : Type 0 where
  pub valid : ValidStored (shape_of layout) (stored_rows layout block after)
  pub holds : data_of (shape_of layout) (stored_rows layout block after) ≡ list
  pub only : (other : List ℕ) → rows_of layout ≤ length other → Fitting other → ValidStored (shape_of layout) other → data_of (shape_of layout) other ≡ list
      → SameRows (shape_of layout) other (stored_rows layout block after)
  pub untouched : Untouched layout block image after

-- with what a visit of the same block would answer and leave
pub record Reading (layout : Layout) (block : ℕ) (buffer : List ℕ) (answer : Answer) (filled : List ℕ) (visited : Answer) (after : List ℕ) : Type 0 where
  pub same : answer ≡ visited
  pub mended : (SaysLost answer → ⊥) → filled ≡ data_of (shape_of layout) (stored_rows layout block after)
  pub stays : SaysLost answer → filled ≡ buffer

-- with what a visit of the block that is next would answer and leave
pub record Turning (r : Record) (answer : Turned) (after : List ℕ) (visited : Answer) (between : List ℕ) : Type 0 where
  pub accepted : answer_number visited ≡ 0
  pub first : report_first answer.report ≡ record { block = r.rota.next; said = answer_said visited }
  pub alone : asks_of r.rota.line ≡ [] → (report_second answer.report ≡ unseen) × (after ≡ between)
  -- then a visit of the ask at place 1
  pub asked : (block : ℕ) (rest : List ℕ) → asks_of r.rota.line ≡ block ∷ rest
      → (other : Answer) (last : List ℕ) → Visits between r.layout block other last
      → (answer_number other ≡ 0) × (report_second answer.report ≡ record { block = block; said = answer_said other }) × (after ≡ last)

-- the demand: of every image of 32-bit words and every block, where the call is accepted, and of all that its promise allows
pub record Demand2 : Type 0 where
  pub visit : (image : List ℕ) (layout : Layout) (block : ℕ) (answer : Answer) (after : List ℕ) → Fitting image
      → Visits image layout block answer after
      → answer_number answer ≡ 0
      → Visiting image layout block answer after
  pub write : (image : List ℕ) (layout : Layout) (block : ℕ) (list : List ℕ) (answer : Stored) (after : List ℕ) → Fitting list
      → Writes image layout block list answer after
      → answer_number answer ≡ 0
      → Writing image layout block list after
  pub read : (image : List ℕ) (layout : Layout) (block : ℕ) (buffer : List ℕ) (answer : Answer) (kept filled : List ℕ) → Fitting image
      → Reads image layout block buffer answer kept filled
      → answer_number answer ≡ 0
      → (visited : Answer) (after : List ℕ) → Visits image layout block visited after
      → Reading layout block buffer answer filled visited after
  pub turn : (r : Record) (image : List ℕ) (answer : Turned) (after : List ℕ) → Turns r image answer after
      → report_number answer.report ≡ 0
      → (visited : Answer) (between : List ℕ) → Visits image r.layout r.rota.next visited between
      → Turning r answer after visited between
  -- accepted or refused, a read leaves the image
  pub read_leaves : (image : List ℕ) (layout : Layout) (block : ℕ) (buffer : List ℕ) (answer : Answer) (kept filled : List ℕ)
      → Reads image layout block buffer answer kept filled
      → kept ≡ image
