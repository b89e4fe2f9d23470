-- `file::reading::read_file` meets its contract: refused as a file, refused for the image's length, or read. Assumes nothing.
use native.Mathlib.Omega.{arith}
use Rattle.refusal.proofs.Answered.{passed_on}
use Rattle.file.proofs.FileReads.{reads_refused, reads_other, reads_words, reads_old}
use Rattle.file.proofs.reading.read_file.Goals as goal

pub returns-in_err-layout : goal.returns-in_err-layout
returns-in_err-layout c = rw (passed_on c.from_residual.ensures.1) (reads_refused _ _ _ c.in_err-layout.ensures)

pub returns-then-image-word_count : goal.returns-then-image-word_count
returns-then-image-word_count c = reads_other _ _ c.in_ok-layout.ensures (λ e. omega arith)

pub returns-then-bytes-eq-OLD_VERSION : goal.returns-then-bytes-eq-OLD_VERSION
returns-then-bytes-eq-OLD_VERSION c =
    reads_old _ _ c.in_ok-layout.ensures (omega arith) c.read_words.ensures (omega arith) c.complement_image.ensures

pub returns-else-bytes-eq-OLD_VERSION : goal.returns-else-bytes-eq-OLD_VERSION
returns-else-bytes-eq-OLD_VERSION c = reads_words _ _ c.in_ok-layout.ensures (omega arith) c.read_words.ensures (λ e. omega arith)
