-- The first 32,769 bytes of a file tell its report: a longer file is refused whatever comes after. Assumes nothing.
use Prim.Native.Nat.{ℕ, ◌<◌}
use mathlib.Core.Path.{◌≡◌, sym, ap, ◌∙◌}
use mathlib.Core.List.{List, [], ◌∷◌}
use mathlib.Core.Logic.{⊎_elim}
use native.Mathlib.Omega.{arith}
use borrow.Author.Tests.{lt-ltb}
use lib.ListN.{length, take}
use lib.Seq.{take_all, length-take-le}
use Rattle.lane.proofs.Rows.{split_below}
use Rattle.file.specs.Refusal.{frame_refusal, file_refusal}
use Rattle.file.specs.Header.{header_of}
use Rattle.report.specs.Lines.{refusal_line}
use Rattle.report.specs.Report.{report_of}

long_refused : (bytes : List ℕ) → 32768 < length bytes → report_of bytes ≡ refusal_line 11 ∷ []
unfolding report_of header_of file_refusal frame_refusal
long_refused bytes h = rw (lt-ltb 32768 (length bytes) h)

pub input_enough : (bytes : List ℕ) → report_of (take 32769 bytes) ≡ report_of bytes
input_enough bytes =
    ⊎_elim
    (λ long. long_refused (take 32769 bytes) (rw (length-take-le 32769 bytes (omega arith)) (omega arith)) ∙ sym (long_refused bytes (omega arith)))
    (λ short. ap report_of (take_all 32769 bytes (omega arith)))
    (split_below 32769 (length bytes))
