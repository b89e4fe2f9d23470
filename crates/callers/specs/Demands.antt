-- The three demands of a caller in C, who lends words and hands the record's words from call to call. Assumes nothing.
use Rattle.std.specs.Prelude.{ℕ, suc, ◌+◌, ◌≤◌, ◌<◌, ◌≡◌, List, [], ◌∷◌, ◌++◌, length, get_or, take, drop, replicate}
use Rattle.ground.specs.Rules.{Ruled}
use Rattle.block.specs.Block.{Fitting}
use Rattle.layout.specs.declared.Layout.{Layout}
use Rattle.layout.specs.Layout.{words_of, blocks}
use Rattle.layout.specs.Reason.{image_rules, block_rules}
use Rattle.rota.specs.Line.{places, asks_of}
use Rattle.store.specs.Answer.{Answer}
use Rattle.store.specs.Answer.{answer_words}
use Rattle.store.specs.Reason.{data_rules}
use Rattle.store.specs.Visit.{visit_answer, visit_after}
use Rattle.patrol.specs.declared.Record.{Record}
use Rattle.patrol.specs.Reason.{ask_rules, turn_rules}
use Rattle.words.specs.Answers.{verdict_width, visit_width, report_width}
use Rattle.words.specs.Records.{record_width, record_of, record_words}
use Rattle.foldgrebe.specs.Calls.{WriteCall, ReadCall, VisitCall, FormatCall, AskCall, TurnCall}
use Rattle.demands.specs.Demand2.{Visiting, Writing, Reading}
use Rattle.demands.specs.Demand3.{store, FormatAccepted, NotFormatted, OneLayout, WordsWritten, FlipsSpaced}
use Rattle.demands.specs.Steps.{Step, read, ask, turn, turns, fresh, answers, last_written}
use Rattle.callers.specs.Handing.{Kept, Called, RanFrom}

-- a record as words, and words as a record: either way and back is the same
pub record RoundTrips : Type 0 where
  pub words : (words : List ℕ) → length words ≡ record_width → record_words (record_of words) ≡ words
  pub back : (r : Record) → length r.rota.line.asks ≡ places → record_of (record_words r) ≡ r

-- ---- demand 1: refused exactly for the stated reason, and then every lent word stays or, where it holds an answer, is 0

-- a number, what it goes by, and what holds where it is not 0
pub record CallerRefusing (Goes : ℕ → Type 1) (number : ℕ) (Else : Type 0) : Type 1 where
  pub ruled : Goes number
  pub unchanged : (number ≡ 0 → ⊥) → Else

pub record CallerDemand1 : Type 1 where
  pub write : {image list after : List ℕ} {layout : Layout} {block number : ℕ} → WriteCall image layout block list number after
      → CallerRefusing (Ruled (data_rules (length image) layout block (length list))) number (after ≡ image)
  pub read : {image buffer kept after verdict : List ℕ} {layout : Layout} {block number : ℕ}
      → ReadCall image layout block buffer number kept after verdict
      → CallerRefusing (Ruled (data_rules (length image) layout block (length buffer))) number
      ((kept ≡ image) × (after ≡ buffer) × (verdict ≡ replicate verdict_width 0))
  pub visit : {image after verdict : List ℕ} {layout : Layout} {block number : ℕ} → VisitCall image layout block number after verdict
      → CallerRefusing (Ruled (block_rules (length image) layout block)) number ((after ≡ image) × (verdict ≡ replicate verdict_width 0))
  pub format : {image after words : List ℕ} {layout : Layout} {number : ℕ} → FormatCall image layout number after words
      → CallerRefusing (Ruled (image_rules (length image) layout)) number ((after ≡ image) × (words ≡ replicate record_width 0))
  pub ask : {lent words place : List ℕ} {block number : ℕ} → length lent ≡ record_width → AskCall lent block number words place
      → CallerRefusing (Ruled (ask_rules (record_of lent) block)) number ((words ≡ lent) × (place ≡ 0 ∷ []))
  pub turn : {lent image words after report : List ℕ} {number : ℕ} → length lent ≡ record_width → TurnCall lent image number words after report
      → CallerRefusing (Ruled (turn_rules (record_of lent) (length image))) number ((words ≡ lent) × (after ≡ image) × (report ≡ replicate report_width 0))

-- ---- demand 2: where the call is accepted, its words are those of an answer of which the demand holds, or a turn's those of its visits

-- a turn's words are its blocks, each with the words that a visit of it gives: the block that is next, then the ask at place 1
pub record CallerTurning (r : Record) (report after : List ℕ) (visited : ℕ) (between verdict : List ℕ) : Type 0 where
  pub accepted : visited ≡ 0
  pub first : take visit_width report ≡ r.rota.next ∷ verdict
  pub alone : asks_of r.rota.line ≡ [] → (drop visit_width report ≡ replicate visit_width 0) × (after ≡ between)
  pub asked : (block : ℕ) (rest : List ℕ) → asks_of r.rota.line ≡ block ∷ rest
      → {number : ℕ} {last other : List ℕ} → VisitCall between r.layout block number last other
      → (number ≡ 0) × (drop visit_width report ≡ block ∷ other) × (after ≡ last)

pub record CallerDemand2 : Type 0 where
  pub visit : {image after verdict : List ℕ} {layout : Layout} {block number : ℕ} → Fitting image → VisitCall image layout block number after verdict
      → number ≡ 0
      → (answer : Answer) × Visiting image layout block answer after × (verdict ≡ answer_words answer)
  pub write : {image list after : List ℕ} {layout : Layout} {block number : ℕ} → Fitting list → WriteCall image layout block list number after
      → number ≡ 0
      → Writing image layout block list after
  pub read : {image buffer kept after verdict : List ℕ} {layout : Layout} {block number : ℕ} → Fitting image
      → ReadCall image layout block buffer number kept after verdict
      → number ≡ 0
      → (kept ≡ image)
      × (answer : Answer) × Reading layout block buffer answer after (visit_answer image layout block) (visit_after image layout block)
      × (verdict ≡ answer_words answer)
  pub turn : {lent image words after report : List ℕ} {number : ℕ} → TurnCall lent image number words after report → number ≡ 0
      → {between verdict : List ℕ} {visited : ℕ} → VisitCall image (record_of lent).layout (record_of lent).rota.next visited between verdict
      → CallerTurning (record_of lent) report after visited between verdict

-- ---- demand 3: of whatever the caller keeps after a format and a list of steps

-- every list of steps has a run, and in a run each call answers the number that the step has where it stands: so the hypotheses below, which
-- speak of the steps, are those of the caller's own calls
pub record CallerRuns : Type 0 where
  pub runs : (image : List ℕ) (layout : Layout) (steps : List Step) → (now : Kept) × RanFrom image layout steps now
  pub numbers : (image : List ℕ) (layout : Layout) (before : List Step) (step : Step) (old new : Kept) (number : ℕ) → RanFrom image layout before old
      → Called step number old new
      → number ≡ answers step (store image layout before)

module _ (image : List ℕ) (layout : Layout) where
  -- a: every turn is accepted, and any N turns running visit every block: the report's first word names it, the next is its verdict
  abbrev pub CallerTurnsAccepted : Type 0
  CallerTurnsAccepted =
      FormatAccepted image layout → (steps : List Step) → NotFormatted image layout steps → (now : Kept) → RanFrom image layout steps now
      → (number : ℕ) (words after report : List ℕ) → TurnCall now.words now.image number words after report
      → number ≡ 0

  abbrev pub CallerBlocksVisited : Type 0
  CallerBlocksVisited =
      FormatAccepted image layout → (before during : List Step) → NotFormatted image layout (before ++ during)
      → blocks layout ≤ turns during
      → (block : ℕ) → block < blocks layout
      → (first rest : List Step) × (during ≡ first ++ turn ∷ rest)
      × ((now : Kept) → RanFrom image layout (before ++ first) now
      → (number : ℕ) (words after report : List ℕ) → TurnCall now.words now.image number words after report
      → (number ≡ 0) × (get_or report 0 0 ≡ block) × (get_or report 1 0 ≡ 0 → ⊥))

  -- b: the word of the ask's place is k, and the k-th turn after it names the block as the ask's, with a verdict
  abbrev pub CallerAskServed : Type 0
  CallerAskServed =
      (before between : List Step) (block : ℕ) → NotFormatted image layout (before ++ ask block ∷ between)
      → (earlier : Kept) → RanFrom image layout before earlier
      → (number : ℕ) (words place : List ℕ) → AskCall earlier.words block number words place
      → number ≡ 0
      → turns between + 1 ≡ get_or place 0 0
      → (now : Kept) → RanFrom image layout (before ++ ask block ∷ between) now
      → (answer : ℕ) (handed after report : List ℕ) → TurnCall now.words now.image answer handed after report
      → (answer ≡ 0) × (get_or report visit_width 0 ≡ block) × (get_or report (suc visit_width) 0 ≡ 0 → ⊥)

  -- c: every accepted read is not lost, and leaves in the buffer the data last written to the block, or zeros
  abbrev pub CallerReadsRight : Type 0
  CallerReadsRight =
      (steps : List Step) → OneLayout image layout steps → WordsWritten steps → FlipsSpaced image layout steps → NotFormatted image layout steps
      → (before rest : List Step) (named : Layout) (block : ℕ) (buffer : List ℕ) → steps ≡ before ++ read named block buffer ∷ rest
      → (now : Kept) → RanFrom image layout before now
      → (number : ℕ) (kept left verdict : List ℕ) → ReadCall now.image named block buffer number kept left verdict
      → number ≡ 0
      → (get_or verdict 0 0 ≡ 3 → ⊥) × (left ≡ last_written block (replicate (words_of layout) 0) before (fresh image layout))

pub record CallerDemand3 : Type 0 where
  pub turns_accepted : (image : List ℕ) (layout : Layout) → CallerTurnsAccepted image layout
  pub every_block_visited : (image : List ℕ) (layout : Layout) → CallerBlocksVisited image layout
  pub ask_served : (image : List ℕ) (layout : Layout) → CallerAskServed image layout
  pub reads_right : (image : List ℕ) (layout : Layout) → CallerReadsRight image layout
