-- `report::lines::block_line` meets its contract: the parts that are put are those of the line. Assumes nothing.
use Rattle.block.specs.declared.Verdict.TheVariants.{Clean, Mended, Lost}
use Rattle.report.proofs.Parts.{block_parts, said}
use Rattle.report.proofs.lines.block_line.Goals as goal

pub returns-in-Clean : goal.returns-in-Clean
returns-in-Clean c = rw c.in-Clean.is (said _ c.put_line.ensures (block_parts c.args.block Clean))

pub returns-in-Mended : goal.returns-in-Mended
returns-in-Mended c = rw c.in-Mended.is (said _ c.put_line-in-Mended.ensures (block_parts c.args.block (Mended c.in-Mended.bits)))

pub returns-in-Lost : goal.returns-in-Lost
returns-in-Lost c =
    rw c.in-Lost.is (said _ c.put_line-in-Lost.ensures (block_parts c.args.block (Lost c.in-Lost.even c.in-Lost.beyond)))
