-- `turn` meets its contract. Assumes nothing.
use mathlib.Core.Path.{◌≡◌, sym}
use borrow.Author.Rules.{rules}
use native.Mathlib.Omega.{arith}
use lib.ListN.{length}
use Rattle.rota.specs.Line.{places}
use Rattle.rota.proofs.Entries.{next_inside, line_tidy, turn_broken, turn_on}
use Rattle.rota.proofs.Rota.turn.Goals as goal

pub returns-then-not-unbroken : goal.returns-then-not-unbroken
returns-then-not-unbroken c = turn_broken _ _ (sym c.if-not-unbroken.ensures)

pub onward-self-requires : goal.onward-self-requires
onward-self-requires c = next_inside _ _ (sym c.if-not-unbroken.ensures)

pub take_first-ask-requires : goal.take_first-ask-requires
take_first-ask-requires c =
    let long : length c.args.self.now.line.asks ≡ places = search rules in
    line_tidy _ _ (sym c.if-not-unbroken.ensures) long

pub returns : goal.returns
returns c =
    let done = c.take_first-ask.ensures in
    turn_on _ _ (sym c.if-not-unbroken.ensures) (grind arith) done.0 c.onward-self.ensures done.1
