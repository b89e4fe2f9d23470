-- The words of rows 1 and 2 of every block are stored complemented, so that a dead chip is not clean: a block of all zeros or all ones has 32 lost
-- lanes, all even. Format leaves FFFFFFFF hex in rows 1 and 2 and zero elsewhere. Assumes nothing.
use Rattle.std.specs.Prelude.{ℕ, ◌≤◌, ◌<◌, ◌≡◌, List, ◌∷◌, ◌⊎◌, length, get_or, take}
use Rattle.std.specs.Int.Bits.{bit_xor}
use Rattle.lane.specs.Decision.{even}
use Rattle.shape.specs.declared.Shape.{Shape}
use Rattle.shape.specs.Shape.{rows}
use Rattle.layout.specs.declared.Layout.{Layout}
use Rattle.layout.specs.Layout.{rows_of, blocks, index}
use Rattle.layout.specs.Refusal.{image_refusal}
use Rattle.stored.specs.Stored.{complemented, complemented_image}
use Rattle.block.specs.Verdict.{Said}
use Rattle.block.specs.declared.Verdict.TheVariants.{Lost}
use Rattle.block.specs.Block.{Fitting}
use Rattle.store.specs.Answer.{Answer}
use Rattle.store.specs.Answer.{answer_said}
use Rattle.refusal.specs.Refusal.{answer_number}
use Rattle.store.specs.Image.{stored_rows}
use Rattle.store.specs.Read.{Reads}
use Rattle.store.specs.Visit.{Visits}
use Rattle.rota.specs.Line.{asks_of}
use Rattle.patrol.specs.declared.Record.{Record}
use Rattle.patrol.specs.Handed.{Formatted}
use Rattle.patrol.specs.declared.Turned.{Turned}
use Rattle.patrol.specs.Format.{Formats}
use Rattle.patrol.specs.Numbers.{report_number, report_first, report_second}
use Rattle.patrol.specs.Turn.{Turns}
use Rattle.file.specs.Bytes.{version_in, layout_in, words_in}
use Rattle.file.specs.Refusal.{file_refusal}
use Rattle.text.specs.Page.{end_to_end}
use Rattle.report.specs.Report.{lines_by, Inspects}
use Rattle.demands.specs.Demand2.{LaneLostAs}

-- ---- what is stored, row by row

-- a row of a block in an image that its layout fits
pub record RowIn (image : List ℕ) (layout : Layout) (block p : ℕ) : Type 0 where
  pub fits : image_refusal (length image) layout ≡ 0
  pub there : block < blocks layout
  pub first : 1 ≤ p
  pub last : p ≤ rows_of layout

-- ---- a dead chip

-- the first n words are all the same, zeros or ones
abbrev pub Dead : ℕ → List ℕ → Type 0
Dead n words = ((k : ℕ) → k < n → get_or words k 0 ≡ 0) ⊎ ((k : ℕ) → k < n → get_or words k 0 ≡ 0xFFFFFFFF)

-- lost, with 32 even lanes and no other
pub record LostWhole (said : Said) : Type 0 where
  pub verdict : said.verdict ≡ 3
  pub even : said.count ≡ 32
  pub beyond : said.beyond ≡ 0

pub record StoredForm : Type 0 where
  -- the stored form is its own inverse, of a block and of an image
  pub inverse : (block : List ℕ) → complemented (complemented block) ≡ block
  pub image_inverse : (layout : Layout) (image : List ℕ) → complemented_image layout (complemented_image layout image) ≡ image
  -- of a block it complements rows 1 and 2 and no other word, and so it does of each block of an image
  pub rows_complemented : (block : List ℕ) (k : ℕ) → k < 2 → k < length block → get_or (complemented block) k 0 ≡ bit_xor (get_or block k 0) 0xFFFFFFFF
  pub rows_kept : (block : List ℕ) (k : ℕ) → 2 ≤ k → get_or (complemented block) k 0 ≡ get_or block k 0
  pub image_complemented : (image : List ℕ) (layout : Layout) (block p : ℕ) → RowIn image layout block p → p ≤ 2
      → get_or (complemented_image layout image) (index layout block p) 0 ≡ bit_xor (get_or image (index layout block p) 0) 0xFFFFFFFF
  pub image_kept : (image : List ℕ) (layout : Layout) (block p : ℕ) → RowIn image layout block p → 2 < p
      → get_or (complemented_image layout image) (index layout block p) 0 ≡ get_or image (index layout block p) 0
  -- format, accepted: ones in rows 1 and 2 of every block, and zero elsewhere
  pub fresh_ones : (image : List ℕ) (layout : Layout) (answer : Formatted) (after : List ℕ) → Formats image layout answer after
      → (block p : ℕ) → RowIn image layout block p → p ≤ 2 → get_or after (index layout block p) 0 ≡ 0xFFFFFFFF
  pub fresh_zeros : (image : List ℕ) (layout : Layout) (answer : Formatted) (after : List ℕ) → Formats image layout answer after
      → (block p : ℕ) → RowIn image layout block p → 2 < p → get_or after (index layout block p) 0 ≡ 0
  -- a block stored as all zeros or all ones: every lane is lost, and even
  pub dead_lanes : (shape : Shape) (stored : List ℕ) → rows shape ≤ length stored → Dead (rows shape) stored
      → (i : ℕ) → i < 32 → LaneLostAs even shape stored i
  -- so such a block is lost 32 0, whatever lies beside it, and nothing is touched
  pub dead_block : (image : List ℕ) (layout : Layout) (block : ℕ) (answer : Answer) (after : List ℕ) → Fitting image
      → Dead (rows_of layout) (stored_rows layout block image)
      → Visits image layout block answer after
      → answer_number answer ≡ 0
      → LostWhole (answer_said answer) × (after ≡ image)
  pub dead_block_read : (image : List ℕ) (layout : Layout) (block : ℕ) (buffer : List ℕ) (answer : Answer) (kept filled : List ℕ) → Fitting image
      → Dead (rows_of layout) (stored_rows layout block image)
      → Reads image layout block buffer answer kept filled
      → answer_number answer ≡ 0
      → LostWhole (answer_said answer) × (filled ≡ buffer)
  -- and so is every block of an image of all zeros or all ones, whatever s
  pub dead_visit : (image : List ℕ) (layout : Layout) (block : ℕ) (answer : Answer) (after : List ℕ) → Dead (length image) image
      → Visits image layout block answer after
      → answer_number answer ≡ 0
      → LostWhole (answer_said answer) × (after ≡ image)
  pub dead_read : (image : List ℕ) (layout : Layout) (block : ℕ) (buffer : List ℕ) (answer : Answer) (kept filled : List ℕ) → Dead (length image) image
      → Reads image layout block buffer answer kept filled
      → answer_number answer ≡ 0
      → LostWhole (answer_said answer) × (filled ≡ buffer)
  pub dead_turn : (r : Record) (image : List ℕ) (answer : Turned) (after : List ℕ) → Dead (length image) image → Turns r image answer after
      → report_number answer.report ≡ 0
      → LostWhole (report_first answer.report).said
      × ((block : ℕ) (rest : List ℕ) → asks_of r.rota.line ≡ block ∷ rest → LostWhole (report_second answer.report).said)
      × (after ≡ image)
  -- so of a file of version 2 with such words, where it is accepted, it is printed that every block is lost 32 0
  pub dead_printed : (bytes out : List ℕ) (end : ℕ) (left : List ℕ) → version_in bytes ≡ 2 → Dead (length (words_in bytes)) (words_in bytes)
      → file_refusal bytes ≡ 0
      → Inspects bytes out end left
      → take end left ≡ end_to_end (lines_by (layout_in bytes) (λ block. Lost 32 0))
