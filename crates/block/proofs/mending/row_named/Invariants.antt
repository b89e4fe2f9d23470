-- `block::mending::row_named` meets its contract. The loop's invariant: the sum is that of the digits passed. Assumes nothing.
use mathlib.Core.Path.{◌≡◌}
use lib.ListN.{get_or}
use Rattle.lane.specs.Bit.{bit}
use Rattle.sums.specs.Words.{number}
use Rattle.block.proofs.mending.row_named.Given as goal

abbrev pub invariant-loop-k : goal.invariant-loop-k
invariant-loop-k l = l.sum ≡ number l.k (λ j. bit l.i (get_or l.sums.words j 0))
