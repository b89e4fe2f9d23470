-- `block::coding::copy_rows` meets its contract. The loop's invariant: the words passed are copied; past the buffer's end nothing is stored. Assumes nothing.
use Prim.Native.Nat.{◌+◌, ◌*◌, ◌-◌}
use mathlib.Core.Path.{◌≡◌}
use lib.ListN.{get_or}
use Rattle.ground.specs.Stores.{stores}
use Rattle.block.proofs.coding.copy_rows.Given as goal

abbrev pub invariant-loop-k : goal.invariant-loop-k
invariant-loop-k l = l.buffer ≡ stores l.initial.buffer (λ j. j) (λ j. get_or l.words (l.at + (get_or l.rows j 0 - 1) * l.s) 0) l.k
