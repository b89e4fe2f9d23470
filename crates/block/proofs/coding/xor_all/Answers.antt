-- `block::coding::xor_all` meets its contract. Assumes nothing.
use mathlib.Core.Path.{refl}
use Rattle.block.specs.Inner.{xor_all}
use Rattle.block.proofs.coding.xor_all.Goals as goal

pub returns : goal.returns
unfolding xor_all
returns c = refl
