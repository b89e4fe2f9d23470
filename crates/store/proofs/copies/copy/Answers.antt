-- `store::copies::copy` meets its contract. The loops' invariants: the rows of the turns so far are copied. Assumes nothing.
use mathlib.Core.Path.{◌≡◌, ap, ◌∙◌}
use native.Mathlib.Omega.{arith}
use Rattle.shape.specs.Shape.{rows}
use Rattle.store.specs.Inner.{copied}
use Rattle.store.proofs.Turns.{none_copied, one_copied, four_copied}
use Rattle.store.proofs.copies.copy.Goals as goal

pub loop-n-init : goal.loop-n-init
loop-n-init c = none_copied _ _ _ _

pub loop-n-preserved : goal.loop-n-preserved
loop-n-preserved c = one_copied _ _ _ _ c.loop-n.n c.if-read-eq1.true c.if-written-eq1.true c.loop-n.invariant

pub returns-then-written-eq1 : goal.returns-then-written-eq1
returns-then-written-eq1 c =
    let end : c.loop-n.n ≡ rows c.args.shape = omega (arith, c.rows-count.ensures) in
    c.loop-n.invariant ∙ ap (copied c.args.from.now c.args.read c.args.to.now c.args.written) end

pub loop-turn-init : goal.loop-turn-init
loop-turn-init c = none_copied _ _ _ _

pub loop-turn-preserved : goal.loop-turn-preserved
loop-turn-preserved c = four_copied _ _ _ _ c.loop-turn.turn c.loop-turn.invariant
