-- `file::writing::write_file` meets its contract: refused, or header and words put. Assumes nothing.
use mathlib.Core.Path.{sym}
use native.Mathlib.Omega.{arith}
use Rattle.refusal.proofs.Answered.{passed_on}
use Rattle.file.proofs.RoundTrip.{length_file}
use Rattle.file.proofs.Put.{file_put}
use Rattle.file.proofs.FileWrites.{writes_refused, writes_bytes}
use Rattle.file.proofs.writing.write_file.Goals as goal

pub returns-in_err-check_written : goal.returns-in_err-check_written
returns-in_err-check_written c = rw (passed_on c.from_residual.ensures.1) (writes_refused _ _ _ _ c.in_err-check_written.ensures)

pub returns : goal.returns
returns c =
    let a = c.args in
    let size = length_file a.layout a.image.now in
    writes_bytes _ _ _ _ _ (sym c.in_ok-check_written.ensures) (omega arith)
    (rw c.put_header.ensures (file_put a.layout a.image.now a.buffer.now _ _ _ (omega arith) (omega arith) (rw c.put_header.ensures at c.put_words.ensures)))
