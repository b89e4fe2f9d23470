-- `sums::sums_beside` meets its contract: the four columns give the sums. Assumes nothing.
use mathlib.Core.Path.{◌∙◌}
use native.Mathlib.Omega.{arith}
use Rattle.shape.specs.declared.Shape.TheVariants.{Two}
use Rattle.sums.proofs.StoredSums.{code_sums}
use Rattle.sums.proofs.Lying.{length_lying}
use Rattle.sums.proofs.Neighbours.{beside_sums}
use Rattle.sums.proofs.sums_beside.Goals as goal

pub returns : goal.returns
returns c =
    let args = c.args in
    let plain = beside_sums args.words.now args.at (λ k. omega (arith, c.type_inv.words k)) c.columns.ensures.table
    c.columns.ensures.top c.columns.ensures.all c.with_ends-ends.ensures c.across-d2.ensures c.across-d3.ensures
    c.across-d4.ensures c.across-d5.ensures in
    c.eight.ensures ∙ code_sums Two _ (length_lying Two args.words.now args.at 1) plain
