-- `take_first` meets its contract. Assumes nothing.
use Prim.Native.Nat.{ℕ, ◌-◌, ◌<◌}
use mathlib.Core.Path.{◌≡◌, ap, ◌∙◌}
use mathlib.Core.List.{List}
use native.Mathlib.Omega.{arith}
use borrow.Author.Rules.{rules}
use lib.ListN.{length, set}
use Rattle.rota.specs.Line.{places}
use Rattle.rota.proofs.Places.{moved_up}
use Rattle.rota.proofs.Lines.{none_shorter, first_is, shorter_is}
use Rattle.rota.proofs.line.Line.take_first.Goals as goal

pub returns-then-self-eq0 : goal.returns-then-self-eq0
returns-then-self-eq0 c = none_shorter places c.args.self.now c.requires c.if-self-eq0.true

pub returns : goal.returns
returns c =
    let line = c.args.self.now in
    let long : length line.asks ≡ places = search rules in
    let some : 0 < line.waiting = omega (arith, c.if-self-eq0.false) in (
      first_is line some (omega arith),
      ap (λ (x : List ℕ). record { waiting = line.waiting - 1; asks = x })
          (ap (λ (x : List ℕ). set x 15 0) c.copy_within.ensures.after ∙ moved_up line.asks 15 long)
          ∙ shorter_is places line long c.requires some,
    )
