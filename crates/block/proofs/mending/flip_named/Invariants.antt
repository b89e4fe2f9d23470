-- `block::mending::flip_named` meets its contract. The loop's invariant: the lanes that are not left are flipped. Assumes nothing.
use Prim.Native.Nat.{ℕ, ◌≤◌}
use mathlib.Core.Bool.{true}
use mathlib.Core.Path.{◌≡◌}
use Rattle.lane.specs.Bit.{bit}
use Rattle.block.proofs.Flips.{done_but}
use Rattle.block.proofs.mending.flip_named.Given as goal

abbrev pub invariant-loop-left : goal.invariant-loop-left
invariant-loop-left l =
    (l.block ≡ done_but l.last l.sums.words l.initial.block l.lanes l.left) × ((i : ℕ) → bit i l.left ≡ true → bit i l.lanes ≡ true) × (l.left ≤ l.lanes)

abbrev pub decreases-loop-left : goal.decreases-loop-left
decreases-loop-left l = l.left
