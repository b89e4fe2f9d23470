-- `unbroken` meets its contract. Assumes nothing.
use Rattle.rota.proofs.Entries.{next_fails, unbroken_is}
use Rattle.rota.proofs.Rota.unbroken.Goals as goal

pub returns-then-self-n : goal.returns-then-self-n
returns-then-self-n c = unbroken_is _ _ c.if-self-n.true _ c.sound.ensures

pub returns-else-self-n : goal.returns-else-self-n
returns-else-self-n c = next_fails _ _ c.if-self-n.false
