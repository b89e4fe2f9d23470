-- `sums::sums_apart` meets its contract. The loop's invariant: the words are those of the rows passed. Assumes nothing.
use Prim.Native.Nat.{◌/◌, ◌≤◌}
use mathlib.Core.Path.{◌≡◌}
use Rattle.shape.specs.Shape.{rows}
use Rattle.sums.proofs.Apart.{Turned}
use Rattle.sums.proofs.sums_apart.Given as goal

abbrev pub invariant-loop-q : goal.invariant-loop-q
invariant-loop-q l =
    (l.turns ≡ rows l.shape / 4) × (l.q ≤ l.turns) × Turned l.words l.at l.s l.q l.i l.ending_00 l.ending_01 l.ending_10 l.ending_11 l.d2 l.upto
