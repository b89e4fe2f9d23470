-- `report::lines::put_line` meets its contract. The loop's invariant: the parts from here on make the line that all of them make.
use native.Mathlib.Omega.{arith}
use Rattle.report.proofs.Parts.{none_put, next_put, all_put, said}
use Rattle.report.proofs.lines.put_line.Goals as goal

pub loop-name-init : goal.loop-name-init
loop-name-init c = none_put c.args.parts.now

pub loop-name-preserved : goal.loop-name-preserved
loop-name-preserved c = next_put _ _ _ (omega arith) c.loop-name.invariant (omega arith) c.put_named.ensures.puts

pub slice_bounds-put_text-end-2 : goal.slice_bounds-put_text-end-2
slice_bounds-put_text-end-2 c =
    let whole = all_put _ _ _ _ c.loop-name.invariant (omega arith) (omega arith) c.requires c.put_text.ensures.puts in
    whole.place

pub returns : goal.returns
returns c =
    let whole = all_put _ _ _ _ c.loop-name.invariant (omega arith) (omega arith) c.requires c.put_text.ensures.puts in
    said _ c.put_text-2.ensures whole.front
