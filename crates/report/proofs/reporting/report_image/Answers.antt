-- `report::reporting::report_image` meets its contract. The loop's invariant: the blocks below k are visited, their lines written and counted. Assumes nothing.
use native.Mathlib.Omega.{arith}
use Rattle.report.proofs.Below.{few_blocks, none_below, countable, one_below, all_below}
use Rattle.report.proofs.reporting.report_image.Goals as goal

pub overflow_cast-n : goal.overflow_cast-n
overflow_cast-n c = omega (arith, few_blocks c.args.layout _ c.requires)

pub loop-k-init : goal.loop-k-init
loop-k-init c = none_below c.args.image.now c.args.layout _ c.default-tally.ensures

pub count-requires : goal.count-requires
count-requires c = countable _ _ c.requires c.loop-k.invariant (omega arith) c.visit_accepted-verdict.ensures

pub loop-k-preserved : goal.loop-k-preserved
loop-k-preserved c =
    one_below _ _ c.requires c.loop-k.invariant (omega arith) c.visit_accepted-verdict.ensures c.block_line.ensures c.count.ensures

pub returns : goal.returns
returns c = all_below _ _ c.requires c.loop-k.invariant c.blocks-n.ensures (omega arith) c.image_line.ensures c.total_line.ensures
