-- `store::copies::gather` meets its contract: the rows are copied, and complemented then. Assumes nothing.
use mathlib.Core.Path.{ap, ◌∙◌}
use Rattle.stored.specs.Stored.{complemented}
use Rattle.store.proofs.Turns.{gathered_first}
use Rattle.store.proofs.copies.gather.Goals as goal

pub returns : goal.returns
returns c = c.complement_block.ensures ∙ ap complemented (gathered_first c.args.site c.from.ensures _ _ c.copy.ensures)
