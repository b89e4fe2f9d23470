-- `text::numbers::spell` meets its contract. The loop's invariant: what is left of n, and then the digits put, are those of n.
use Prim.Native.Nat.{◌≤◌}
use mathlib.Core.Path.{sym}
use mathlib.Core.List.{append-nil}
use native.Mathlib.Omega.{arith}
use lib.ListN.{length-set}
use Rattle.std.proofs.lemmas.List.{drop_all}
use Rattle.text.proofs.Decimal.{decimal_some, decimal_short, length_more, put_more}
use Rattle.text.proofs.numbers.spell.Goals as goal

pub loop-first-init : goal.loop-first-init
loop-first-init c = (rw (drop_all 10 c.args.digits.now (omega arith)) (sym (append-nil _)), decimal_short 9 c.args.n (omega arith), omega arith)

pub loop-first-preserved : goal.loop-first-preserved
loop-first-preserved c =
    let l = c.loop-first in
    let more : 10 ≤ l.rest = omega arith in (
      put_more _ l.rest l.first l.digits l.invariant.0 (omega arith) (omega (arith, l.invariant.2)) more,
      omega (arith, l.invariant.1, length_more l.rest more),
      simp length-set l.invariant.2,
    )

pub unreachable-requires : goal.unreachable-requires
unreachable-requires c = omega (arith, c.loop-first.invariant.1, decimal_some c.loop-first.rest)
