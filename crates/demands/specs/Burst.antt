-- A burst: a spark spoils neighbouring words. Where every block is valid, spoil any bits in at most s neighbouring words, across a group border too,
-- and visit every block, in any order: the image is then what it was, and no visit says lost. s + 1 words can lose a block. Assumes nothing.
use Rattle.std.specs.Prelude.{ℕ, zero, suc, ◌+◌, ◌-◌, ◌*◌, ◌/◌, ◌≤◌, ◌<◌, not, ◌≡◌, List, [], ◌∷◌, ◌++◌, ◌⊎◌, length, get_or, replicate}
use Rattle.lane.specs.Bit.{bit}
use Rattle.block.specs.Block.{Fitting, SameRows, data_of}
use Rattle.layout.specs.declared.Layout.{Layout}
use Rattle.layout.specs.Layout.{shape_of, rows_of, words_of, blocks, index}
use Rattle.layout.specs.Refusal.{image_refusal}
use Rattle.store.specs.Answer.{Answer, Stored}
use Rattle.refusal.specs.Refusal.{answer_number}
use Rattle.store.specs.Image.{stored_rows}
use Rattle.store.specs.Read.{Reads}
use Rattle.store.specs.Visit.{Visits}
use Rattle.store.specs.Write.{Writes}
use Rattle.patrol.specs.Handed.{Formatted}
use Rattle.patrol.specs.declared.Turned.{Turned}
use Rattle.patrol.specs.Format.{Formats}
use Rattle.patrol.specs.Numbers.{report_first, report_second}
use Rattle.patrol.specs.Turn.{Turns}
use Rattle.demands.specs.Demand2.{ValidStored, SaysLost}
use Rattle.demands.specs.Steps.{Step, format, write, read, visit, ask, turn, flip, fresh, flipped, turns, last_written}
use Rattle.demands.specs.Demand3.{store, NotFormatted, OneLayout, WordsWritten, FlipsSpaced}

-- ---- what struck

-- an image that its layout fits, of 32-bit words, in which every block is valid as it is stored
pub record AllValid (layout : Layout) (image : List ℕ) : Type 0 where
  pub fits : image_refusal (length image) layout ≡ 0
  pub words : Fitting image
  pub valid : (block : ℕ) → block < blocks layout → ValidStored (shape_of layout) (stored_rows layout block image)

-- a number is one of n running
abbrev pub Within : (n start at : ℕ) → Type 0
Within n start at = (start ≤ at) × (at < start + n)

-- n neighbouring words, or n neighbouring bytes, four to a word: byte b of a word lies at `place b`, which is b where the lowest comes first, and
-- 3 − b where the highest does
pub data Reach : Type 0 where
  words_from : (n start : ℕ) → Reach
  bytes_from : (place : ℕ → ℕ) → (n start : ℕ) → Reach

-- bit i of the word at an index is one of theirs
abbrev pub Hit : Reach → (at i : ℕ) → Type 0
Hit (words_from n start) at i = Within n start at
Hit (bytes_from place n start) at i = Within n start (4 * at + place (i / 8))

-- they are at most s words, or at most 4·s bytes, wherever they begin
abbrev pub Short : Layout → Reach → Type 0
Short layout (words_from n start) = n ≤ layout.s
Short layout (bytes_from place n start) = n ≤ 4 * layout.s

-- any of their bits are changed, and no other bit is
pub record Burst (reach : Reach) (image spoiled : List ℕ) : Type 0 where
  pub size : length spoiled ≡ length image
  pub words : Fitting spoiled
  pub elsewhere : (at i : ℕ) → (Hit reach at i → ⊥) → bit i (get_or spoiled at 0) ≡ bit i (get_or image at 0)

-- every block was valid, and such a burst has struck
pub record Struck (layout : Layout) (image spoiled : List ℕ) : Type 0 where
  pub valid : AllValid layout image
  pub reach : Reach
  pub short : Short layout reach
  pub burst : Burst reach image spoiled

-- ---- what is done then

-- the blocks of a list are visited one after the other, each as the promise of visit allows
unfoldable pub VisitsInOrder : Layout → List ℕ → (image after : List ℕ) → Type 0
VisitsInOrder layout [] image after = after ≡ image
VisitsInOrder layout (block ∷ rest) image after =
    (answer : Answer) × (between : List ℕ) × Visits image layout block answer between × VisitsInOrder layout rest between after

-- a block comes in a list
unfoldable pub Comes : ℕ → List ℕ → Type 0
Comes block [] = ⊥
Comes block (first ∷ rest) = (first ≡ block) ⊎ Comes block rest

-- every block does, once or more
abbrev pub EveryBlock : Layout → List ℕ → Type 0
EveryBlock layout order = (block : ℕ) → block < blocks layout → Comes block order

-- a burst has struck, and some blocks have been visited since: none of them yet, or all, or some twice
pub record OnTheWay (layout : Layout) (image now : List ℕ) : Type 0 where
  pub spoiled : List ℕ
  pub struck : Struck layout image spoiled
  pub done : List ℕ
  pub visits : VisitsInOrder layout done spoiled now

-- every accepted read of demand 3, had a burst come straight before it, with some visits since perhaps
abbrev pub ReadsStruck : List ℕ → Layout → Type 0
ReadsStruck image layout =
    (steps : List Step) → OneLayout image layout steps → WordsWritten steps → FlipsSpaced image layout steps → NotFormatted image layout steps
    → (before rest : List Step) (named : Layout) (block : ℕ) (buffer : List ℕ) → steps ≡ before ++ read named block buffer ∷ rest
    → (now : List ℕ) → OnTheWay layout (store image layout before).image now
    → (answer : Answer) (kept left : List ℕ) → Reads now named block buffer answer kept left
    → answer_number answer ≡ 0
    → (SaysLost answer → ⊥) × (left ≡ last_written block (replicate (words_of layout) 0) before (fresh image layout))

-- ---- one more

-- rows k + 1 and k + 2 of a block are both there
abbrev pub RowsPair : Layout → ℕ → Type 0
RowsPair layout k = suc k < rows_of layout

-- one word or one byte more than that, from the word, or from the byte of bit i of the word, at an index on
abbrev pub OneMore : Layout → (at i : ℕ) → Reach → Type 0
OneMore layout at i (words_from n start) = (n ≡ suc layout.s) × (start ≡ at)
OneMore layout at i (bytes_from place n start) = (n ≡ suc (4 * layout.s)) × (start ≡ 4 * at + place (i / 8))

-- bit i of a word is changed
abbrev pub Changed : (i at : ℕ) → (image spoiled : List ℕ) → Type 0
Changed i at image spoiled = bit i (get_or spoiled at 0) ≡ not (bit i (get_or image at 0))

-- bit i is flipped in each of n neighbouring words
unfoldable pub flipped_in : (i n start : ℕ) → List ℕ → List ℕ
flipped_in i zero start image = image
flipped_in i (suc n) start image = flipped (start + n) i (flipped_in i n start image)

-- a visit says lost of a block, and leaves the image
abbrev pub Loses : Layout → ℕ → List ℕ → Type 0
Loses layout block image = (answer : Answer) (after : List ℕ) → Visits image layout block answer after → SaysLost answer × (after ≡ image)

-- ---- the steps of a store

-- each step of a list is such
abbrev pub Each : (Step → Type 0) → List Step → Type 0
Each Such steps = (first rest : List Step) (step : Step) → steps ≡ first ++ step ∷ rest → Such step

-- a flip of one of the bits
abbrev pub FlipOf : Reach → Step → Type 0
FlipOf reach step = (at bit : ℕ) × (step ≡ flip at bit) × Hit reach at bit

-- a read, an ask, a turn, a visit with this layout
abbrev pub Quiet : Layout → Step → Type 0
Quiet layout (format named) = ⊥
Quiet layout (write named block list) = ⊥
Quiet layout (read named block buffer) = Unit {0}
Quiet layout (visit named block) = named ≡ layout
Quiet layout (ask block) = Unit {0}
Quiet layout turn = Unit {0}
Quiet layout (flip at bit) = ⊥

-- every block of a store was valid, a spark has flipped bits of so many words or bytes, and quiet calls came since
pub record Sparked (image : List ℕ) (layout : Layout) (before spark since : List Step) : Type 0 where
  pub unformatted : NotFormatted image layout before
  pub valid : AllValid layout (store image layout before).image
  pub reach : Reach
  pub short : Short layout reach
  pub flips : Each (FlipOf reach) spark
  pub quiet : Each (Quiet layout) since

pub record Bursts : Type 0 where
  -- every block is valid right after a format, and a write with this layout keeps it so, refused too
  pub fresh_valid : (image : List ℕ) (layout : Layout) (answer : Formatted) (after : List ℕ) → Formats image layout answer after
      → answer.number ≡ 0
      → AllValid layout after
  pub write_valid : (image : List ℕ) (layout : Layout) → AllValid layout image
      → (block : ℕ) (list : List ℕ) (answer : Stored) (after : List ℕ) → Fitting list → Writes image layout block list answer after
      → AllValid layout after
  -- every block is visited, in any order: the image is then what it was
  pub restored : (layout : Layout) (image spoiled : List ℕ) → Struck layout image spoiled
      → (order after : List ℕ) → EveryBlock layout order → VisitsInOrder layout order spoiled after
      → after ≡ image
  -- on the way, every block that has been visited is as it was
  pub visited : (layout : Layout) (image now : List ℕ) (way : OnTheWay layout image now) (block : ℕ) → block < blocks layout → Comes block way.done
      → SameRows (shape_of layout) (stored_rows layout block now) (stored_rows layout block image)
  -- no visit says lost, neither on the way nor after; and every visit of a block is accepted
  pub none_lost : (layout : Layout) (image now : List ℕ) → OnTheWay layout image now
      → (block : ℕ) (answer : Answer) (after : List ℕ) → Visits now layout block answer after
      → SaysLost answer → ⊥
  pub accepted : (layout : Layout) (image now : List ℕ) → OnTheWay layout image now
      → (block : ℕ) (answer : Answer) (after : List ℕ) → Visits now layout block answer after
      → block < blocks layout
      → answer_number answer ≡ 0
  -- a read gives the data that the block held, straight after the burst and on the way
  pub reads : (layout : Layout) (image now : List ℕ) → OnTheWay layout image now
      → (block : ℕ) (buffer : List ℕ) (answer : Answer) (kept filled : List ℕ) → Reads now layout block buffer answer kept filled
      → answer_number answer ≡ 0
      → (SaysLost answer → ⊥) × (filled ≡ data_of (shape_of layout) (stored_rows layout block image))
  -- so one that demand 3 speaks of gives the data last written, or zeros
  pub reads_right : (image : List ℕ) (layout : Layout) → ReadsStruck image layout
  -- the patrol is such an order: N turns after a spark, whatever quiet calls come between, the image is what it was
  pub round : (image : List ℕ) (layout : Layout) (before spark since : List Step) → Sparked image layout before spark since
      → blocks layout ≤ turns since
      → (store image layout (before ++ spark ++ since)).image ≡ (store image layout before).image
  -- no turn, on the way or after, reports a block lost, and a read gives the data that the block held
  pub turns_none_lost : (image : List ℕ) (layout : Layout) (before spark since : List Step) → Sparked image layout before spark since
      → (answer : Turned) (left : List ℕ)
      → Turns (store image layout (before ++ spark ++ since)).patrol (store image layout (before ++ spark ++ since)).image answer left
      → ((report_first answer.report).said.verdict ≡ 3 → ⊥) × ((report_second answer.report).said.verdict ≡ 3 → ⊥)
  pub round_reads : (image : List ℕ) (layout : Layout) (before spark since : List Step) → Sparked image layout before spark since
      → (block : ℕ) (buffer : List ℕ) (answer : Answer) (kept filled : List ℕ)
      → Reads (store image layout (before ++ spark ++ since)).image layout block buffer answer kept filled
      → answer_number answer ≡ 0
      → (SaysLost answer → ⊥) × (filled ≡ data_of (shape_of layout) (stored_rows layout block (store image layout before).image))
  -- s + 1 neighbouring words, or 4·s + 1 bytes, are too many: the first and the last are of rows k + 1 and k + 2 of one block, and where the same
  -- bit of both is changed it is lost, and left as it is
  pub too_many : (layout : Layout) (image spoiled : List ℕ) → AllValid layout image
      → (block k i : ℕ) → block < blocks layout → RowsPair layout k → i < 32
      → (reach : Reach) → OneMore layout (index layout block (suc k)) i reach → Burst reach image spoiled
      → Changed i (index layout block (suc k)) image spoiled
      → Changed i (index layout block (suc k) + layout.s) image spoiled
      → Loses layout block spoiled
  -- the same bit flipped in each of s + 1 words is such a burst: for both shapes, every s, every block and every row but its last
  pub tight : (layout : Layout) (image : List ℕ) → AllValid layout image
      → (block k i : ℕ) → block < blocks layout → RowsPair layout k → i < 32
      → ((reach : Reach) → OneMore layout (index layout block (suc k)) i reach
      → Burst reach image (flipped_in i (suc layout.s) (index layout block (suc k)) image))
      × Loses layout block (flipped_in i (suc layout.s) (index layout block (suc k)) image)
  -- so of every image that was formatted, with bit 0 flipped in its first s + 1 words, block 0 is lost
  pub tight_fresh : (image : List ℕ) (layout : Layout) (answer : Formatted) (after : List ℕ) → Formats image layout answer after
      → answer.number ≡ 0
      → Loses layout 0 (flipped_in 0 (suc layout.s) 0 after)
  -- nothing lies between: one less than too many is few enough
  pub no_gap_words : (layout : Layout) (at i n start : ℕ) → OneMore layout at i (words_from (suc n) start) → Short layout (words_from n start)
  pub no_gap_bytes : (layout : Layout) (place : ℕ → ℕ) (at i n start : ℕ) → OneMore layout at i (bytes_from place (suc n) start)
      → Short layout (bytes_from place n start)
  -- s + 1 words lose a block in that way alone: they are mended whole where the first and the last have no bit changed in common, or are of two blocks
  pub else_kept : (layout : Layout) (image spoiled : List ℕ) → AllValid layout image
      → (start : ℕ) → Burst (words_from (suc layout.s) start) image spoiled
      → ((block k i : ℕ) → RowsPair layout k → i < 32 → index layout block (suc k) ≡ start
      → Changed i start image spoiled
      → Changed i (start + layout.s) image spoiled
      → ⊥)
      → (order after : List ℕ) → EveryBlock layout order → VisitsInOrder layout order spoiled after
      → after ≡ image
  -- as from a block's last row on, where its group ends
  pub border : (layout : Layout) (image spoiled : List ℕ) → AllValid layout image
      → (block : ℕ) → Burst (words_from (suc layout.s) (index layout block (rows_of layout))) image spoiled
      → (order after : List ℕ) → EveryBlock layout order → VisitsInOrder layout order spoiled after
      → after ≡ image
  -- how many bytes are at most s words: 4·s from a word's start on, and 4·s − 3 from anywhere; one more, from a word's last byte on, reaches the
  -- word s further on
  pub bytes_from_word : (place : ℕ → ℕ) (s word n at i : ℕ) → place (i / 8) < 4 → n ≤ 4 * s
      → Hit (bytes_from place n (4 * word)) at i
      → Hit (words_from s word) at i
  pub bytes_from_any : (place : ℕ → ℕ) (s start n at i : ℕ) → place (i / 8) < 4 → n + 3 ≤ 4 * s
      → Hit (bytes_from place n start) at i
      → Hit (words_from s (start / 4)) at i
  pub bytes_more : (s word : ℕ) → 1 ≤ s
      → Hit (bytes_from (λ b. b) (4 * s - 2) (4 * word + 3)) word 24 × Hit (bytes_from (λ b. b) (4 * s - 2) (4 * word + 3)) (word + s) 0
