-- `text::numbers::spell` meets its contract. The loop's invariant: what is left of n, and then the digits put, are those of n.
use Rattle.std.proofs.Common.{◌≡◌, ◌≤◌, ◌++◌, length}
use lib.ListN.{drop}
use Rattle.text.specs.Text.{decimal}
use Rattle.text.proofs.numbers.spell.Given as goal

abbrev pub invariant-loop-first : goal.invariant-loop-first
invariant-loop-first l =
    (decimal l.n ≡ decimal l.rest ++ drop l.first l.digits) × (length (decimal l.rest) ≤ l.first) × (length l.digits ≡ 10)
