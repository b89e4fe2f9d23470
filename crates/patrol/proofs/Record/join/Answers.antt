-- `Record::join` meets its contract. Assumes nothing.
use mathlib.Core.Path.{sym}
use native.Mathlib.Omega.{arith}
use Rattle.layout.proofs.Ladder.{geometry}
use Rattle.patrol.proofs.Record.join.Goals as goal

pub overflow_cast-n : goal.overflow_cast-n
overflow_cast-n c = omega (arith, c.blocks-n.ensures, (geometry _ (sym c.in_ok-check.ensures)).n_last)
