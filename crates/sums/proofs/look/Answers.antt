-- `sums::look` meets its contract, by the stride and the shape. Assumes nothing.
use Rattle.sums.proofs.Doubt.{as_told}
use Rattle.sums.proofs.look.Goals as goal

pub returns-in-One : goal.returns-in-One
returns-in-One c = as_told c.in-One.is c.if-site-ne1.false c.look_one.ensures

pub returns-in-Two : goal.returns-in-Two
returns-in-Two c = as_told c.in-Two.is c.if-site-ne1.false c.beside.ensures
