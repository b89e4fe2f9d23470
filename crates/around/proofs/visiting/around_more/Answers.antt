-- `around::visiting::around_more` meets its contract: from what is told of two or three rows. Assumes nothing.
use Prim.Native.Nat.{◌^◌, ◌<◌}
use mathlib.Core.Path.{refl, sym, ap, ◌∙◌}
use borrow.Author.Rules.{rules}
use lib.ListN.{length, length-set}
use Rattle.around.proofs.Calls.{three, third_there, row_inside, more_lost, more_two, more_three}
use Rattle.around.proofs.visiting.around_more.Goals.{in-Some, in_default}
use Rattle.around.proofs.visiting.around_more.Goals as goal

pub returns-then-lost-ne0 : goal.returns-then-lost-ne0
returns-then-lost-ne0 c =
    let are = c.any-lost.ensures in
    rw are
    (more_lost c.requires.0 c.args.a c.args.b c.args.c c.requires.1 c.solve-wrong.ensures (rw are at c.any-lost.type_inv) (λ z. c.if-lost-ne0.true (are ∙ z)))

pub flip-requires : goal.flip-requires
flip-requires c = let row = (three _ _ _ _ c.requires.1).a_row in row_inside c.requires.0 _ c.args.a refl row.0 row.1

pub flip-requires-2 : goal.flip-requires-2
flip-requires-2 c =
    let row = (three _ _ _ _ c.requires.1).b_row in
    row_inside c.requires.0 _ c.args.b (ap length c.flip.ensures ∙ length-set _ _ _) row.0 row.1

pub flip-requires-in-Some : goal.flip-requires-in-Some
flip-requires-in-Some c =
    let row = third_there _ _ _ _ c.requires.1 _ c.in-Some.is in
    row_inside c.requires.0 _ c.in-Some.c (ap length c.flip-2.ensures ∙ length-set _ _ _ ∙ ap length c.flip.ensures ∙ length-set _ _ _) row.0 row.1

pub returns : goal.returns
returns c =
    let looked = c.requires.0 in
    let none = sym c.any-lost.ensures ∙ c.if-lost-ne0.false in
    let fa : c.solve-wrong.result.a < 2 ^ 32 = search rules in
    let fb : c.solve-wrong.result.b < 2 ^ 32 = search rules in
    let fc : c.solve-wrong.result.c < 2 ^ 32 = search rules in
    elim c.match-c.branch [
      | in-Some w ↦ rw w.image-is
          (more_three looked c.args.a c.args.b c.args.c c.requires.1 c.solve-wrong.ensures none fa fb fc _ w.in-Some.is _ _ _ c.flip.ensures c.flip-2.ensures
          w.flip-in-Some.ensures)
      | in_default w ↦ rw w.image-is
          (more_two looked c.args.a c.args.b c.args.c c.requires.1 c.solve-wrong.ensures none fa fb fc w.in_default.is _ _ c.flip.ensures c.flip-2.ensures)
    ]
