-- No more vectors agree than there are. Assumes nothing.
use Rattle.std.proofs.Common.{◌≤◌}
use Rattle.examples.proofs.vectors.run_all.Given as goal

abbrev pub invariant-loop-vectors : goal.invariant-loop-vectors
invariant-loop-vectors g l = l.agree ≤ l.vectors
