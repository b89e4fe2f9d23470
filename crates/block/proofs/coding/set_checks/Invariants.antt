-- `block::coding::set_checks` meets its contract. The loop's invariant: the check rows passed are set. Assumes nothing.
use Prim.Native.Nat.{◌-◌, ◌^◌}
use mathlib.Core.Path.{◌≡◌}
use lib.ListN.{get_or}
use Rattle.ground.specs.Stores.{stores}
use Rattle.block.proofs.coding.set_checks.Given as goal

abbrev pub invariant-loop-k : goal.invariant-loop-k
invariant-loop-k l = l.block ≡ stores l.initial.block (λ j. 2 ^ j - 1) (λ j. get_or l.sums.words j 0) l.k
