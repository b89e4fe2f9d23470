-- `ask` meets its contract. Assumes nothing.
use mathlib.Core.Path.{◌≡◌, sym}
use borrow.Author.Rules.{rules}
use lib.ListN.{length}
use Rattle.rota.specs.Line.{places}
use Rattle.rota.proofs.Lines.{room}
use Rattle.rota.proofs.Entries.{line_fit, line_tidy, ask_broken, ask_outside, ask_again, ask_full, ask_new}
use Rattle.rota.proofs.Rota.ask.Goals as goal

pub returns-then-not-unbroken : goal.returns-then-not-unbroken
returns-then-not-unbroken c = ask_broken _ _ (sym c.if-not-unbroken.ensures) _

pub returns-then-n-block : goal.returns-then-n-block
returns-then-n-block c = ask_outside _ _ (sym c.if-not-unbroken.ensures) _ c.if-n-block.true

pub place-requires : goal.place-requires
place-requires c = (line_fit _ _ (sym c.if-not-unbroken.ensures)).few

pub returns-in-Some : goal.returns-in-Some
returns-in-Some c =
    let long : length c.args.self.now.line.asks ≡ places = search rules in
    ask_again _ _ (sym c.if-not-unbroken.ensures) long _ c.if-n-block.false _ c.in-Some.ensures

pub returns-then-is_full : goal.returns-then-is_full
returns-then-is_full c =
    ask_full _ _ (sym c.if-not-unbroken.ensures) _ c.if-n-block.false c.in_default.ensures
    (sym c.if-is_full.ensures)

pub push-requires : goal.push-requires
push-requires c =
    let long : length c.args.self.now.line.asks ≡ places = search rules in (
      line_tidy _ _ (sym c.if-not-unbroken.ensures) long,
      room _ _ long (sym c.if-is_full.ensures),
    )

pub returns : goal.returns
returns c =
    let long : length c.args.self.now.line.asks ≡ places = search rules in
    ask_new _ _ (sym c.if-not-unbroken.ensures) long _ c.if-n-block.false _ c.in_default.ensures
    (sym c.if-is_full.ensures) c.push.ensures
