-- What each read gives stands after what the earlier ones gave. Assumes nothing.
use Rattle.std.proofs.Common.{rules}
use Rattle.input.proofs.Front.{taken_more}
use Rattle.input.proofs.read_full.Goals as goal

pub loop-count-preserved : goal.loop-count-preserved
loop-count-preserved g c =
    let before = c.loop-count.invariant in
    let read = c.in_ok-more.ensures in
    (search rules, search rules, taken_more _ _ _ _ _ _ _ before.0 read.bound.0 before.2 read.bytes.0)
