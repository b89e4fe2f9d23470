-- `around::solving::change` meets its contract. The loop's invariant: the digits passed are changed. Assumes nothing.
use mathlib.Core.Path.{◌≡◌}
use Rattle.around.proofs.Digits.{changed_to}
use Rattle.around.proofs.solving.change.Given as goal

abbrev pub invariant-loop-k : goal.invariant-loop-k
invariant-loop-k l = l.word-items ≡ changed_to l.mark l.lanes l.fn.sums.words l.k
