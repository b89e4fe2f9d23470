-- `in_order` meets its contract: the blocks passed are below n, and no two are the same. Assumes nothing.
use mathlib.Core.Bool.{◌&&◌}
use mathlib.Core.Path.{refl, sym, ap₂}
use lib.Seq.{take_all}
use Rattle.rota.specs.Line.{below, none_twice}
use Rattle.rota.proofs.Places.{waits, waits_not, below_next, once_next, below_fails, once_fails}
use Rattle.rota.proofs.line.Line.in_order.Goals as goal

pub loop-i-init : goal.loop-i-init
unfolding below none_twice
loop-i-init c = (refl, refl)

pub returns-then-n-block : goal.returns-then-n-block
returns-then-n-block c =
    rw (← c.waits-waits.ensures) (below_fails _ _ c.loop-i.i c.loop-i-test.true c.if-n-block.true)

pub returns-then-is_some : goal.returns-then-is_some
returns-then-is_some c =
    rw (← c.waits-waits.ensures)
    (once_fails _ _ c.loop-i.i c.loop-i-test.true (waits _ _ _ c.index_of.ensures.place (sym c.if-is_some.ensures)))

pub loop-i-preserved : goal.loop-i-preserved
loop-i-preserved c =
    let at = c.loop-i in (
      below_next _ _ at.i c.loop-i-test.true at.invariant.0 c.if-n-block.false,
      once_next _ at.i c.loop-i-test.true at.invariant.1 (waits_not _ _ _ c.index_of.ensures.place (sym c.if-is_some.ensures)),
    )

pub returns : goal.returns
returns c =
    let all = take_all c.loop-i.i c.waits-waits.result.now c.loop-i-test.false in
    rw (← c.waits-waits.ensures, ← all) (sym (ap₂ ◌&&◌ c.loop-i.invariant.0 c.loop-i.invariant.1))
