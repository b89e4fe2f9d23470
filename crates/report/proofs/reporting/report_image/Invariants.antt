-- `report::reporting::report_image` meets its contract. The loop's invariant: the blocks below k are visited, their lines written and counted. Assumes nothing.
use Rattle.report.proofs.Below.{Below}
use Rattle.report.proofs.reporting.report_image.Given as goal

abbrev pub invariant-loop-k : goal.invariant-loop-k
invariant-loop-k l = Below l.initial.image l.layout l.k l.image l.tally l.initial.page l.page
