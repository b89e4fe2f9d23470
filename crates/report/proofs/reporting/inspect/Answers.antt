-- `report::reporting::inspect` meets its contract: the image has room for the words, and the array for the report. Assumes nothing.
use native.Mathlib.Omega.{arith}
use Rattle.report.proofs.Whole.{report_whole}
use Rattle.report.proofs.reporting.inspect.Goals as goal

pub returns : goal.returns
returns c = report_whole c.report_file.ensures (omega arith) (omega arith)
