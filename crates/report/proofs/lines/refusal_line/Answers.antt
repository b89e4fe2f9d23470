-- `report::lines::refusal_line` meets its contract: the parts that are put are those of the line. Assumes nothing.
use Rattle.report.proofs.Parts.{refusal_parts, said}
use Rattle.report.proofs.lines.refusal_line.Goals as goal

pub returns : goal.returns
returns c = said _ c.put_line.ensures (refusal_parts c.args.number)
