-- Demand 3, of a freshly formatted store of N blocks, its record handed from call to call, and not formatted again: a list of steps may
-- hold any call, a format too, and no format in it is accepted.
--   a. Every turn is accepted, and any N turns running visit every block.
--   b. An ask given place k is served by the k-th turn after it, whatever comes between.
--   c. If memory changes otherwise only by single flips between calls, with at least N turns between two flips in the same lane of the
--      same block, every accepted read gives the data last written there, or zeros.
-- Each is of all that the promises of ask, turn and read allow. Where the format was refused no ask is given a place and no read that names
-- its layout is accepted, so b and c need not ask for it.
-- Assumes nothing.
use Rattle.std.specs.Prelude.{Result, ℕ, ◌+◌, ◌^◌, ◌≤◌, ◌<◌, ◌≡◌, List, ◌∷◌, ◌++◌, length, get_or, replicate}
use Rattle.refusal.specs.declared.Refusal.{Refusal}
use Rattle.layout.specs.declared.Layout.{Layout}
use Rattle.layout.specs.Layout.{rows_of, words_of, blocks, index}
use Rattle.layout.specs.Refusal.{image_refusal}
use Rattle.store.specs.Answer.{Answer}
use Rattle.refusal.specs.Refusal.{answer_number}
use Rattle.store.specs.Read.{Reads}
use Rattle.rota.specs.Numbers.{place_number, place_given}
use Rattle.patrol.specs.declared.Report.{Report}
use Rattle.patrol.specs.declared.Asked.{Asked}
use Rattle.patrol.specs.declared.Turned.{Turned}
use Rattle.patrol.specs.Ask.{Asks}
use Rattle.patrol.specs.Turn.{Turns}
use Rattle.patrol.specs.Numbers.{Seen, report_number, report_first, report_second}
use Rattle.demands.specs.Demand2.{SaysLost}
use Rattle.demands.specs.Steps.{Step, format, write, read, visit, ask, turn, flip, State, fresh, after, answers, turns, last_written}

-- a visit in a report names the block, and has a verdict
abbrev pub Names : ℕ → Seen → Type 0
Names block seen = (seen.block ≡ block) × (seen.said.verdict ≡ 0 → ⊥)

-- the report is of an accepted turn, and names the block as the patrol's
abbrev pub PatrolVisits : ℕ → Result Report Refusal → Type 0
PatrolVisits block report = (report_number report ≡ 0) × Names block (report_first report)

-- the report is of an accepted turn, and names the block as that of the ask that was served
abbrev pub AskVisits : ℕ → Result Report Refusal → Type 0
AskVisits block report = (report_number report ≡ 0) × Names block (report_second report)

-- the layout that a call names is this one
abbrev pub SameLayout : Layout → Step → Type 0
SameLayout layout (format named) = named ≡ layout
SameLayout layout (write named block list) = named ≡ layout
SameLayout layout (read named block buffer) = named ≡ layout
SameLayout layout (visit named block) = named ≡ layout
SameLayout layout (ask block) = Unit {0}
SameLayout layout turn = Unit {0}
SameLayout layout (flip at bit) = Unit {0}

-- the data words of every write are 32-bit words
abbrev pub WordsWritten : List Step → Type 0
WordsWritten steps =
    (before rest : List Step) (layout : Layout) (block : ℕ) (list : List ℕ) → steps ≡ before ++ write layout block list ∷ rest
    → (k : ℕ) → get_or list k 0 < 2 ^ 32

-- the word at an index is a row of the block
abbrev pub RowOf : Layout → ℕ → ℕ → Type 0
RowOf layout block at = (p : ℕ) × (1 ≤ p) × (p ≤ rows_of layout) × (at ≡ index layout block p)

module _ (image : List ℕ) (layout : Layout) where
  -- the store after a list of steps
  abbrev pub store : List Step → State
  store steps = after steps (fresh image layout)

  -- not formatted again: no format in the list is accepted where it stands
  abbrev pub NotFormatted : List Step → Type 0
  NotFormatted steps =
      (before rest : List Step) (named : Layout) → steps ≡ before ++ format named ∷ rest → answers (format named) (store before) ≡ 0 → ⊥

  -- ---- a

  -- the format is accepted
  abbrev pub FormatAccepted : Type 0
  FormatAccepted = image_refusal (length image) layout ≡ 0

  -- every turn is accepted
  abbrev pub TurnsAccepted : Type 0
  TurnsAccepted =
      FormatAccepted → (before : List Step) → NotFormatted before
      → (answer : Turned) (left : List ℕ) → Turns (store before).patrol (store before).image answer left
      → report_number answer.report ≡ 0

  -- in any N turns running every block is visited, whatever comes between
  abbrev pub EveryBlockVisited : Type 0
  EveryBlockVisited =
      FormatAccepted → (before during : List Step) → NotFormatted (before ++ during)
      → blocks layout ≤ turns during → (block : ℕ) → block < blocks layout
      → (first rest : List Step) × (during ≡ first ++ turn ∷ rest)
      × ((answer : Turned) (left : List ℕ) → Turns (store (before ++ first)).patrol (store (before ++ first)).image answer left
      → PatrolVisits block answer.report)

  -- ---- b

  -- an ask given place k is served by the k-th turn after it, whatever comes between
  abbrev pub AskServed : Type 0
  AskServed =
      (before between : List Step) (block : ℕ) → NotFormatted (before ++ ask block ∷ between)
      → (given : Asked) → Asks (store before).patrol block given
      → place_number given.place ≡ 0
      → turns between + 1 ≡ place_given given.place
      → (answer : Turned) (left : List ℕ)
      → Turns (store (before ++ ask block ∷ between)).patrol (store (before ++ ask block ∷ between)).image answer left
      → AskVisits block answer.report

  -- ---- c

  -- every call names the store's layout, or is refused where it stands
  abbrev pub OneLayout : List Step → Type 0
  OneLayout steps =
      (before rest : List Step) (step : Step) → steps ≡ before ++ step ∷ rest → answers step (store before) ≡ 0 → SameLayout layout step

  -- at least N turns lie between any two flips in the same lane of the same block
  abbrev pub FlipsSpaced : List Step → Type 0
  FlipsSpaced steps =
      (before between rest : List Step) (at also bit block : ℕ)
      → steps ≡ before ++ flip at bit ∷ between ++ flip also bit ∷ rest
      → RowOf layout block at
      → RowOf layout block also
      → blocks layout ≤ turns between

  -- every accepted read is not lost, and leaves in the buffer the data last written to the block, or zeros
  abbrev pub ReadsRight : Type 0
  ReadsRight =
      (steps : List Step) → OneLayout steps → WordsWritten steps → FlipsSpaced steps → NotFormatted steps
      → (before rest : List Step) (named : Layout) (block : ℕ) (buffer : List ℕ) → steps ≡ before ++ read named block buffer ∷ rest
      → (answer : Answer) (kept left : List ℕ) → Reads (store before).image named block buffer answer kept left
      → answer_number answer ≡ 0
      → (SaysLost answer → ⊥) × (left ≡ last_written block (replicate (words_of layout) 0) before (fresh image layout))

-- for every image and every layout
pub record Demand3 : Type 0 where
  pub turns_accepted : (image : List ℕ) (layout : Layout) → TurnsAccepted image layout
  pub every_block_visited : (image : List ℕ) (layout : Layout) → EveryBlockVisited image layout
  pub ask_served : (image : List ℕ) (layout : Layout) → AskServed image layout
  pub reads_right : (image : List ℕ) (layout : Layout) → ReadsRight image layout
