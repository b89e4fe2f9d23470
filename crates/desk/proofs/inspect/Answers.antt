-- The report of what was read is the file's. Assumes nothing.
use Rattle.std.proofs.Common.{rules}
use Rattle.desk.proofs.Enough.{written_tells}
use Rattle.desk.proofs.inspect.Goals as goal

pub returns : goal.returns
returns g c =
    let read = c.in_ok-count.ensures in
    written_tells _ _ _ _ _ c.read_full.new.bytes _ _ (search rules) read.within.0 read.bytes read.end (search rules) c.write_all.ensures.bytes
