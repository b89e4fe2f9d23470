-- `stored::complement_image` meets its contract. The loop's invariant: the groups before the place are done. Assumes nothing.
use Prim.Native.Nat.{◌-◌}
use Rattle.stored.proofs.Groups.{Going}
use Rattle.stored.proofs.complement_image.Given as goal

abbrev pub invariant-loop-at : goal.invariant-loop-at
invariant-loop-at l = Going l.initial.image l.first l.group l.image l.at

abbrev pub decreases-loop-at : goal.decreases-loop-at
decreases-loop-at l = l.at-end - l.at
