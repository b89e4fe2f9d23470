-- `sums::beside` meets its contract: the sums where every row is there. Assumes nothing.
use native.Mathlib.Omega.{arith}
use Rattle.shape.specs.declared.Shape.TheVariants.{Two}
use Rattle.sums.proofs.Doubt.{looks, misses}
use Rattle.sums.proofs.beside.Goals as goal

pub overflow_add-first : goal.overflow_add-first
overflow_add-first c = omega (arith, c.rows.ensures)

pub returns-then-words-first : goal.returns-then-words-first
returns-then-words-first c =
    let args = c.args in
    misses Two args.words.now args.at 1 args.sums.now.words (omega (arith, c.rows.ensures, c.if-words-first.true))

pub sums_beside-requires : goal.sums_beside-requires
sums_beside-requires c = omega (arith, c.rows.ensures, c.if-words-first.false)

pub returns : goal.returns
returns c =
    let args = c.args in
    looks Two args.words.now args.at 1 (omega (arith, c.rows.ensures, c.if-words-first.false)) c.sums_beside.ensures c.keep.ensures
