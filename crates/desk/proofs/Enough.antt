-- What was read of a file tells its report: it is the whole file, or so many of its first bytes that the rest does not matter. Assumes nothing.
use Rattle.std.proofs.Common.{◌≡◌, ℕ, ◌<◌, ◌≤◌, List, [], ◌++◌, length, take, Option, None, Some, Result, Ok, Err, OnOk}
use Rattle.std.proofs.Common.{sym, ap, subst, ◌∙◌, inl, inr, arith, append-nil, length-take-le}
use lib.Seq.{take_at}
use Rattle.std.proofs.lemmas.Bool.{cases_lt}
use Rattle.std.specs.Io.KnownBytes.{Appends, Consumes, IsAtEnd}
use Rattle.text.specs.Page.{end_to_end}
use Rattle.report.specs.Report.{report_of}
use Rattle.report.proofs.Input.{input_enough}
use Rattle.desk.specs.Told.{TellsFile}

-- the first bytes of a file, where they are the whole or as many as are read
front_tells : (front rest : List ℕ) → length front ≤ 32769 → (length front < 32769 → rest ≡ []) → report_of front ≡ report_of (front ++ rest)
front_tells front rest fits ends = elim (cases_lt (length front) 32769) [
  | inl short ↦ ap report_of (sym (append-nil front) ∙ ap (λ l. front ++ l) (sym (ends short)))
  | inr long ↦ ap report_of (sym (take_at front rest 32769 (omega arith))) ∙ input_enough (front ++ rest)
]

-- what is appended of the bytes that were read is what is to be told of the file
appended_tells : (input left held after : Option (List ℕ)) (bytes : List ℕ) (count : ℕ) → length bytes ≡ 32769
    → count ≤ length bytes
    → Consumes input left (take count bytes)
    → (count < length bytes → IsAtEnd left)
    → Appends held after (end_to_end (report_of (take count bytes)))
    → TellsFile input held after
appended_tells None left held after bytes count long within took ends appended = tt
appended_tells (Some xs) None held after bytes count long within took ends appended = absurd took
appended_tells (Some xs) (Some ys) held after bytes count long within took ends appended =
    let size : length (take count bytes) ≡ count = length-take-le count bytes within in
    let told = front_tells (take count bytes) ys (omega arith) (λ short. ends (omega arith)) ∙ ap report_of (sym took) in
    subst (λ lines. Appends held after (end_to_end lines)) told appended

pub written_tells : {T E : Type 0} (written : Result T E) (input left held after : Option (List ℕ)) (bytes : List ℕ) (count : ℕ) (text : List ℕ)
    → length bytes ≡ 32769
    → count ≤ length bytes
    → Consumes input left (take count bytes)
    → (count < length bytes → IsAtEnd left)
    → text ≡ end_to_end (report_of (take count bytes))
    → OnOk written (Appends held after text)
    → OnOk written (TellsFile input held after)
written_tells (Ok v) input left held after bytes count text long within took ends is appended =
    appended_tells input left held after bytes count long within took ends (subst (Appends held after) is appended)
written_tells (Err e) input left held after bytes count text long within took ends is appended = tt
