-- `sound` meets its contract. Assumes nothing.
use mathlib.Core.Bool.{true, false}
use mathlib.Core.Path.{refl, ◌∙◌}
use Rattle.rota.specs.Line.{places}
use Rattle.rota.proofs.Lines.{sound_many, sound_is}
use Rattle.rota.proofs.line.Line.sound.Goals as goal

pub returns-then-self-gt-PLACES : goal.returns-then-self-gt-PLACES
returns-then-self-gt-PLACES c = sound_many places _ _ c.if-self-gt-PLACES.true

pub returns-then-in_order : goal.returns-then-in_order
returns-then-in_order c =
    sound_is places _ _ c.if-self-gt-PLACES.false true _ c.if-in_order.ensures c.unused.ensures

pub returns-else-in_order : goal.returns-else-in_order
returns-else-in_order c =
    c.if-in_order.false ∙ sound_is places _ _ c.if-self-gt-PLACES.false false _ c.if-in_order.ensures refl
