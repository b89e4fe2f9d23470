-- The program visits its copy of each block from 0 to N − 1 and prints the image line, a line for each block and the total line; or one line
-- for a refusal. Assumes nothing.
use Rattle.std.specs.Prelude.{ℕ, zero, suc, ◌≡◌, List, [], ◌∷◌, ◌++◌, length, take, drop, Result, Ok, Err}
use Rattle.refusal.specs.declared.Refusal.{Refusal}
use Rattle.refusal.specs.Refusal.{number}
use Rattle.block.specs.declared.Verdict.{Verdict}
use Rattle.block.specs.Verdict.{verdict_of}
use Rattle.layout.specs.declared.Layout.{Layout}
use Rattle.layout.specs.Layout.{shape_of, blocks}
use Rattle.store.specs.Image.{gathered}
use Rattle.store.specs.Visit.{visit_after}
use Rattle.file.specs.Bytes.{image_in}
use Rattle.file.specs.Header.{header_of}
use Rattle.report.specs.declared.Tally.{Tally}
use Rattle.text.specs.Page.{end_to_end}
use Rattle.report.specs.Lines.{refusal_line, image_line, block_line, total_line, no_blocks, counted}

-- ---- an image

-- the image after the blocks below n have been visited, in order
unfoldable pub visited_below : List ℕ → Layout → ℕ → List ℕ
visited_below image layout zero = image
visited_below image layout (suc n) = visit_after (visited_below image layout n) layout n

-- what the visit of a block finds, those below it having been visited
unfoldable pub verdict_at : List ℕ → Layout → ℕ → Verdict
verdict_at image layout block = verdict_of (shape_of layout) (gathered layout block (visited_below image layout block))

-- the lines of the blocks below n, and their tally, by the verdict on each
unfoldable pub block_lines : (ℕ → Verdict) → ℕ → List (List ℕ)
block_lines verdicts zero = []
block_lines verdicts (suc n) = block_lines verdicts n ++ block_line n (verdicts n) ∷ []

unfoldable pub tally_below : (ℕ → Verdict) → ℕ → Tally
tally_below verdicts zero = no_blocks
tally_below verdicts (suc n) = counted (verdicts n) (tally_below verdicts n)

-- the lines of a layout whose blocks have these verdicts
abbrev pub lines_by : Layout → (ℕ → Verdict) → List (List ℕ)
lines_by layout verdicts =
    image_line layout (blocks layout)
    ∷ block_lines verdicts (blocks layout)
    ++ total_line (tally_below verdicts (blocks layout))
    ∷ []

unfoldable pub image_report : List ℕ → Layout → List (List ℕ)
image_report image layout = lines_by layout (verdict_at image layout)

-- ---- a file

abbrev pub report_for : Result Layout Refusal → List ℕ → List (List ℕ)
report_for (Err refusal) image = refusal_line (number refusal) ∷ []
report_for (Ok layout) image = image_report image layout

-- the lines that are printed of a file
unfoldable pub report_of : List ℕ → List (List ℕ)
report_of bytes = report_for (header_of bytes) (image_in bytes)

-- the promise of inspect: the bytes up to the end that it answers are the whole report, and those past it are as they were
pub record Inspects (bytes out : List ℕ) (end : ℕ) (left : List ℕ) : Type 0 where
  pub ends : end ≡ length (end_to_end (report_of bytes))
  pub whole : take end left ≡ end_to_end (report_of bytes)
  pub past : drop end left ≡ drop end out
