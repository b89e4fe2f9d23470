-- `around::naming::check_named` meets its contract. The loop's invariant: the list is misnamed if the rows that are left are. Assumes nothing.
use mathlib.Core.Path.{◌≡◌}
use lib.ListN.{drop}
use Rattle.around.specs.Refusal.{misnamed?}
use Rattle.around.proofs.naming.check_named.Given as goal

abbrev pub invariant-loop-k : goal.invariant-loop-k
invariant-loop-k l = misnamed? l.last l.list ≡ misnamed? l.last (drop l.k l.list)
