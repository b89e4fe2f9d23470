-- `index_of` meets its contract. Assumes nothing.
use mathlib.Core.Path.{◌≡◌}
use borrow.Author.Rules.{rules}
use borrow.Author.Tests.{tests}
use Rattle.std.proofs.lemmas.Iterator.{IsFirst-from_position, YieldsList-from_slice}
use Rattle.rota.proofs.Places.{place_is}
use Rattle.rota.proofs.line.index_of.Goals as goal

pub returns-clause-place : goal.returns-clause-place
returns-clause-place c =
    place_is c.args.block c.args.blocks.now _
    (IsFirst-from_position _ _ _ (λ x. x ≡ c.args.block) (λ x. x ≡ c.args.block → ⊥) c.position.ensures.ran
    (YieldsList-from_slice c.args.blocks.now c.iter.ensures.rest) (λ x q k. search (rules, tests)) (λ x q k. search (rules, tests)))
