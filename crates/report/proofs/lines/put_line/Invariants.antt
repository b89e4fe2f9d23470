-- `report::lines::put_line` meets its contract. The loop's invariant: the parts from here on make the line that all of them make.
use lib.ListN.{drop}
use Rattle.text.specs.Page.{page}
use Rattle.report.proofs.Parts.{Putting}
use Rattle.report.proofs.lines.put_line.Given as goal

abbrev pub invariant-loop-name : goal.invariant-loop-name
invariant-loop-name l = Putting l.parts (drop l.name-index l.parts) l.name-index (page l.line.bytes.now l.line.next)
