-- `store::copies::copy` meets its contract. The loop's invariant: the rows of the turns so far are copied. Assumes nothing.
use Prim.Native.Nat.{◌*◌}
use mathlib.Core.Path.{◌≡◌}
use Rattle.store.specs.Inner.{copied}
use Rattle.store.proofs.copies.copy.Given as goal

abbrev pub invariant-loop-turn : goal.invariant-loop-turn
invariant-loop-turn l = l.to ≡ copied l.from l.fn.read l.initial.to l.fn.written (4 * l.turn)

abbrev pub invariant-loop-n : goal.invariant-loop-n
invariant-loop-n l = l.to ≡ copied l.from l.fn.read l.initial.to l.fn.written l.n
