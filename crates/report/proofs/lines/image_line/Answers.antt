-- `report::lines::image_line` meets its contract: the parts that are put are those of the line. Assumes nothing.
use Rattle.report.proofs.Parts.{image_parts, said}
use Rattle.report.proofs.lines.image_line.Goals as goal

pub returns : goal.returns
returns c = said _ c.put_line.ensures (image_parts c.args.layout c.args.blocks)
