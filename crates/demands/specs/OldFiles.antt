-- A file of version 1 prints what it printed: its refusal by the rules as they were, or the report of its own words by the old rule, by which rows 1
-- and 2 were stored as they are. Assumes nothing.
use Rattle.std.specs.Prelude.{ℕ, zero, suc, ◌≡◌, List, [], ◌∷◌, ◌++◌, length, take}
use Rattle.ground.specs.Choice.{if_zero}
use Rattle.ground.specs.Rules.{Rule, NoneOf, FirstGiven}
use Rattle.layout.specs.declared.Layout.{Layout}
use Rattle.layout.specs.Layout.{shape_of}
use Rattle.layout.specs.Refusal.{block_refusal}
use Rattle.layout.specs.Reason.{layout_rules}
use Rattle.block.specs.Block.{mended_block}
use Rattle.block.specs.declared.Verdict.{Verdict}
use Rattle.block.specs.Verdict.{verdict_of}
use Rattle.store.specs.Image.{stored_rows, with_rows}
use Rattle.file.specs.Bytes.{version_in, layout_in, words_in}
use Rattle.file.specs.Reason.{too_long, too_short, bad_field, bad_body}
use Rattle.text.specs.Page.{end_to_end}
use Rattle.report.specs.Lines.{refusal_line}
use Rattle.report.specs.Report.{lines_by, Inspects}

-- the old rule: the stored rows of a block are the code's
unfoldable pub old_visit : List ℕ → Layout → ℕ → List ℕ
old_visit words layout block =
    if_zero (block_refusal (length words) layout block)
    (with_rows layout block (mended_block (shape_of layout) (stored_rows layout block words)) words)
    words

-- the words after the blocks below n have been visited, in order; what the visit of a block finds; and the lines
unfoldable pub old_visited : List ℕ → Layout → ℕ → List ℕ
old_visited words layout zero = words
old_visited words layout (suc n) = old_visit (old_visited words layout n) layout n

abbrev pub old_verdict : List ℕ → Layout → ℕ → Verdict
old_verdict words layout block = verdict_of (shape_of layout) (stored_rows layout block (old_visited words layout block))

abbrev pub old_report : List ℕ → Layout → List (List ℕ)
old_report words layout = lines_by layout (old_verdict words layout)

-- the old rules of a file: the version is not 1
abbrev pub not_version_one : List ℕ → Rule
not_version_one bytes = record { number = 9; reason = version_in bytes ≡ 1 → ⊥ }

abbrev pub old_rules : List ℕ → List Rule
old_rules bytes = too_long bytes ∷ too_short bytes ∷ not_version_one bytes ∷ bad_field bytes ∷ layout_rules (layout_in bytes) ++ bad_body bytes ∷ []

-- what was printed of a file
pub record PrintedBefore (bytes answered : List ℕ) : Type 1 where
  pub refused : (number : ℕ) → FirstGiven number (old_rules bytes) → answered ≡ refusal_line number
  pub accepted : NoneOf (old_rules bytes) → answered ≡ end_to_end (old_report (words_in bytes) (layout_in bytes))

abbrev pub OldPrinted : Type 1
OldPrinted = (bytes out : List ℕ) (end : ℕ) (left : List ℕ) → version_in bytes ≡ 1 → Inspects bytes out end left → PrintedBefore bytes (take end left)
