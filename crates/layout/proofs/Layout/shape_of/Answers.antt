-- `layout::Layout::shape_of` meets its contract. Assumes nothing.
use mathlib.Core.Path.{◌∙◌}
use Rattle.layout.proofs.Shapes.{shape_or_two}
use Rattle.layout.proofs.Layout.shape_of.Goals as goal

pub returns : goal.returns
returns c = c.unwrap_or.ensures ∙ shape_or_two _ c.try_from.result c.try_from.ensures
