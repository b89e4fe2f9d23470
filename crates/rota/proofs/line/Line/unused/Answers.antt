-- `unused` meets its contract. Assumes nothing.
use Prim.Native.Nat.{◌-◌}
use mathlib.Core.Path.{◌≡◌, ◌∙◌}
use native.Mathlib.Omega.{arith}
use lib.ListN.{length, length-drop}
use lib.Seq.{take_all}
use borrow.Author.Rules.{rules}
use borrow.Author.Tests.{tests}
use Rattle.std.proofs.lemmas.Iterator.{cases_from_all, YieldsList-from_slice}
use Rattle.rota.specs.Line.{places, unused_of}
use Rattle.rota.proofs.Places.{zeros_is}
use Rattle.rota.proofs.line.Line.unused.Goals as goal

pub returns : goal.returns
returns c =
    let line = c.args.self.now in
    let long : length line.asks ≡ places = search rules in
    let last = take_all (places - line.waiting) (unused_of line) (omega (arith, length-drop line.waiting line.asks)) in
    zeros_is (unused_of line) _
    (cases_from_all _ _ _ (λ x. x ≡ 0) (λ x. x ≡ 0 → ⊥) c.all.ensures.ran (YieldsList-from_slice (unused_of line) (c.iter.ensures.rest ∙ last))
    (λ x q k. search (rules, tests)) (λ x q k. search (rules, tests)))
