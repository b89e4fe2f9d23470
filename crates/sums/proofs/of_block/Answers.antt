-- `sums::of_block` meets its contract: sums kept in zeros are there either way. Assumes nothing.
use native.Mathlib.Omega.{arith}
use Rattle.std.proofs.lemmas.Grind.{common_steps}
use Rattle.shape.specs.declared.Shape.TheVariants.{Two}
use Rattle.sums.proofs.Doubt.{kept_in_zeros}
use Rattle.sums.proofs.of_block.Goals as goal

pub returns : goal.returns
returns c =
    let there = kept_in_zeros Two _ _ (c.beside.ensures.there (grind (arith, common_steps))).1 in
    grind (arith, common_steps, there)
