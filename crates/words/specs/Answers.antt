-- Answers as words. How many a verdict takes is counted once, from the words that say that there is none. Assumes nothing.
use Rattle.std.specs.Prelude.{ℕ, ◌+◌, ◌≡◌, List, [], ◌∷◌, Result, Ok, Err, length}
use Rattle.refusal.specs.declared.Refusal.{Refusal}
use Rattle.refusal.specs.Refusal.{answer_number}
use Rattle.block.specs.declared.Verdict.{Verdict}
use Rattle.block.specs.Verdict.{no_verdict}
use Rattle.store.specs.Answer.{Stored, answer_words, stored_words}
use Rattle.patrol.specs.declared.Report.{Report}
use Rattle.patrol.specs.Numbers.{no_visit, report_words}

abbrev pub verdict_width : ℕ
verdict_width = length no_verdict

-- the words of a visit, and of the two visits of a report
abbrev pub visit_width : ℕ
visit_width = length no_visit

abbrev pub report_width : ℕ
report_width = visit_width + visit_width

-- the number that is answered besides, and 0 where the call is refused
abbrev pub count_given : Result ℕ Refusal → ℕ
count_given (Ok count) = count
count_given (Err refusal) = 0

-- the promise of number, of whatever call
abbrev pub NumbersAnswer : {A : Type 0} → Result A Refusal → ℕ → Type 0
NumbersAnswer answer number = number ≡ answer_number answer

-- the promises of answer_words, stored_words, count_words and report_words
abbrev pub SpellsAnswer : Result Verdict Refusal → List ℕ → Type 0
SpellsAnswer answer words = words ≡ answer_words answer

abbrev pub SpellsStored : Stored → List ℕ → Type 0
SpellsStored answer words = words ≡ stored_words answer

abbrev pub SpellsCount : Result ℕ Refusal → List ℕ → Type 0
SpellsCount answer words = words ≡ count_given answer ∷ []

abbrev pub SpellsReport : Result Report Refusal → List ℕ → Type 0
SpellsReport answer words = words ≡ report_words answer
