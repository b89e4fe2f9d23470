-- `in_order` meets its contract: the blocks passed are below n, and no two are the same. Assumes nothing.
use mathlib.Core.Bool.{true}
use mathlib.Core.Path.{◌≡◌}
use lib.ListN.{take}
use Rattle.rota.specs.Line.{below, none_twice}
use Rattle.rota.proofs.line.Line.in_order.Given as goal

abbrev pub invariant-loop-i : goal.invariant-loop-i
invariant-loop-i l = (below l.n (take l.i l.waits) ≡ true) × (none_twice (take l.i l.waits) ≡ true)
