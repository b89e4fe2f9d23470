-- `block::coding::spread` meets its contract. The loop's invariant: the words passed are in their rows, and zero stands elsewhere.
-- Assumes nothing.
use Prim.Native.Nat.{◌-◌}
use mathlib.Core.Path.{◌≡◌}
use lib.ListN.{length, get_or}
use Rattle.ground.specs.Stores.{stores}
use Rattle.block.specs.Block.{blank}
use Rattle.block.proofs.coding.spread.Given as goal

abbrev pub invariant-loop-row : goal.invariant-loop-row
invariant-loop-row l = l.block ≡ stores blank (λ j. get_or l.rows j 0 - 1) (λ j. get_or l.list j 0) (length l.yielded)
