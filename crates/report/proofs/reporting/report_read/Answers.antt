-- `report::reporting::report_read` meets its contract: refused, or every block visited. Assumes nothing.
use mathlib.Core.Path.{refl}
use Rattle.report.proofs.Reported.{report_refused, read_fits, report_visited}
use Rattle.report.proofs.reporting.report_read.Goals as goal

pub report_image-requires : goal.report_image-requires
report_image-requires c = read_fits _ _ c.in-Ok.ensures _ refl c.read_file.auto.image

pub returns-in-Err : goal.returns-in-Err
returns-in-Err c = report_refused _ _ c.in-Err.ensures _ refl c.from.ensures c.refusal_line.ensures

pub returns-in-Ok : goal.returns-in-Ok
returns-in-Ok c = report_visited _ _ c.in-Ok.ensures _ refl c.report_image.ensures
