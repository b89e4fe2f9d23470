-- `Record::advance` meets its contract. Assumes nothing.
use mathlib.Core.Path.{sym, refl}
use native.Mathlib.Omega.{arith}
use Rattle.layout.proofs.Ladder.{geometry, image_layout}
use Rattle.patrol.proofs.Calls.{turn_ready, turn_reported}
use Rattle.patrol.proofs.Record.advance.Goals as goal

pub overflow_cast-blocks : goal.overflow_cast-blocks
overflow_cast-blocks c = omega (arith, c.blocks-2.ensures, (geometry _ (image_layout _ _ (sym c.in_ok-check_image.ensures))).n_last)

pub visit_due-requires : goal.visit_due-requires
visit_due-requires c = turn_ready _ _ c.in_ok-check_image.ensures (rw c.blocks-2.ensures at c.in_ok-due.ensures)

pub returns : goal.returns
returns c = turn_reported _ _ c.in_ok-check_image.ensures (rw c.blocks-2.ensures at c.in_ok-due.ensures) _ refl c.visit_due.ensures
