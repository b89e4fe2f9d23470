-- `report::lines::total_line` meets its contract: the parts that are put are those of the line. Assumes nothing.
use Rattle.report.proofs.Parts.{total_parts, said}
use Rattle.report.proofs.lines.total_line.Goals as goal

pub returns : goal.returns
returns c = said _ c.put_line.ensures (total_parts c.args.tally)
