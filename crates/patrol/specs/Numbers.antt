-- The report of a turn in the specification's numbers: a refusal's number with block, verdict and counts 0; the second block, verdict and
-- counts are 0 where no ask was served. Assumes nothing.
use Rattle.std.specs.Prelude.{ℕ, List, ◌∷◌, ◌++◌, Option, Some, None, Result, Ok, Err}
use Rattle.refusal.specs.declared.Refusal.{Refusal}
use Rattle.refusal.specs.Refusal.{answer_number}
use Rattle.block.specs.declared.Verdict.{Verdict}
use Rattle.block.specs.Verdict.{Said, said_of, unsaid, said_words}
use Rattle.patrol.specs.declared.Report.{Report}
use Rattle.patrol.specs.declared.Visit.{Visit}

abbrev pub report_number : Result Report Refusal → ℕ
report_number report = answer_number report

-- a visit in numbers: the block, and what is said of it; zeros where there was none
pub record Seen : Type 0 where
  pub block : ℕ
  pub said : Said

abbrev pub seen_of : ℕ → Verdict → Seen
seen_of block found = record { block = block; said = said_of found }

abbrev pub unseen : Seen
unseen = record { block = 0; said = unsaid }

-- the patrol's visit, and the ask's
abbrev pub seen_as : Visit → Seen
seen_as visit = seen_of visit.block visit.verdict

abbrev pub seen_if : Option Visit → Seen
seen_if None = unseen
seen_if (Some visit) = seen_as visit

abbrev pub report_first : Result Report Refusal → Seen
report_first (Ok report) = seen_as report.patrol
report_first (Err refusal) = unseen

abbrev pub report_second : Result Report Refusal → Seen
report_second (Ok report) = seen_if report.ask
report_second (Err refusal) = unseen

-- as words
abbrev pub seen_words : Seen → List ℕ
seen_words seen = seen.block ∷ said_words seen.said

abbrev pub visit_words : ℕ → Verdict → List ℕ
visit_words block found = seen_words (seen_of block found)

abbrev pub no_visit : List ℕ
no_visit = seen_words unseen

abbrev pub report_words : Result Report Refusal → List ℕ
report_words report = seen_words (report_first report) ++ seen_words (report_second report)
