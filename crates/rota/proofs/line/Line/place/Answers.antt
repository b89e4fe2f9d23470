-- `place` meets its contract. Assumes nothing.
use mathlib.Core.Path.{ap, ◌∙◌}
use Rattle.rota.specs.Line.{place_of}
use Rattle.rota.proofs.line.Line.place.Goals as goal

pub returns-in_err-at : goal.returns-in_err-at
returns-in_err-at c = c.from_residual.ensures ∙ c.in_err-at.ensures.place ∙ ap (place_of c.args.block) c.waits.ensures

pub returns : goal.returns
returns c = c.in_ok-at.ensures.place ∙ ap (place_of c.args.block) c.waits.ensures
