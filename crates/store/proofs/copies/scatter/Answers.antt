-- `store::copies::scatter` meets its contract: the rows are complemented, and copied then. Assumes nothing.
use Rattle.store.proofs.Turns.{scattered_first}
use Rattle.store.proofs.copies.scatter.Goals as goal

pub returns : goal.returns
returns c = scattered_first c.args.site c.from.ensures _ _ _ c.complement_block.ensures c.copy.ensures
