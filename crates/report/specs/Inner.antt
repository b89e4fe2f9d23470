-- What the code computes on its way: a tally that has room, and a report with an image lent for it. Assumes nothing.
use Rattle.std.specs.Prelude.{ℕ, ◌+◌, ◌≤◌, List, [], ◌∷◌, ◌++◌, length, Result}
use Rattle.std.specs.Borrow.{Bor}
use Rattle.block.specs.declared.Verdict.{Verdict}
use Rattle.block.specs.Verdict.{verdict_count}
use Rattle.refusal.specs.declared.Refusal.{Refusal}
use Rattle.refusal.specs.Refusal.{answered}
use Rattle.layout.specs.declared.Layout.{Layout}
use Rattle.file.specs.Bytes.{layout_in, image_in}
use Rattle.file.specs.Refusal.{read_refusal}
use Rattle.text.specs.Text.{decimal, line_end}
use Rattle.text.specs.Page.{end_to_end}
use Rattle.text.specs.Puts.{PutsAll}
use Rattle.report.specs.declared.Tally.{Tally}
use Rattle.report.specs.Report.{report_for}

-- a tally of at most 4,096 blocks, and a verdict of at most 32 bits
pub record Countable (verdict : Verdict) (tally : Tally) : Type 0 where
  pub small : verdict_count verdict ≤ 32
  pub clean_few : tally.clean ≤ 4096
  pub mended_few : tally.mended ≤ 4096
  pub lost_few : tally.lost ≤ 4096
  pub bits_few : tally.bits ≤ 131072

-- ---- a file

-- the header of a file that is read into an image of so many words
abbrev pub header_for : List ℕ → ℕ → Result Layout Refusal
header_for bytes len = answered (read_refusal bytes len) (layout_in bytes)

-- and its lines
abbrev pub lines_for : List ℕ → ℕ → List (List ℕ)
lines_for bytes len = report_for (header_for bytes len) (image_in bytes)

-- written from byte 0 on, each that fits
abbrev pub Reports : (bytes : List ℕ) (len : ℕ) (out : List ℕ) (next : ℕ) (printed : List ℕ) → Type 0
Reports bytes len out next printed = PutsAll (lines_for bytes len) out 0 printed next

-- ---- a line

-- each name and the number after it
abbrev pub named_all : List (Bor (List ℕ) × ℕ) → List (List ℕ)
named_all [] = []
named_all (part ∷ parts) = part.0.now ∷ decimal part.1 ∷ named_all parts

-- and the line's end
abbrev pub line_of : List (Bor (List ℕ) × ℕ) → List ℕ
line_of parts = end_to_end (named_all parts ++ line_end ∷ [])

-- the bytes of the names
abbrev pub names : List (Bor (List ℕ) × ℕ) → ℕ
names [] = 0
names (part ∷ parts) = length part.0.now + names parts
