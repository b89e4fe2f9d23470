-- `around::visiting::around_one` meets its contract: from its mark taken out of the sums, by the verdict that is left. Assumes nothing.
use mathlib.Core.Path.{◌≡◌, refl, sym, ◌∙◌}
use native.Mathlib.Omega.{arith}
use Rattle.shape.specs.Shape.{rows}
use Rattle.around.specs.Inner.{mark}
use Rattle.around.proofs.One.{left_lanes}
use Rattle.around.proofs.Calls.{row_there, row_inside, decides_turned, one_lost, one_alone, one_visited}
use Rattle.around.proofs.visiting.around_one.Goals as goal

pub mark-mark-requires : goal.mark-mark-requires
mark-mark-requires c = row_there c.requires.0 c.args.row c.requires.1

pub flip-requires : goal.flip-requires
flip-requires c =
    let there = row_there c.requires.0 c.args.row c.requires.1 in
    row_inside c.requires.0 _ c.args.row refl there.0 there.1

pub overflow_add-result : goal.overflow_add-result
overflow_add-result c =
    let decides = decides_turned c.requires.0 c.args.row c.requires.1 _ c.mark-mark.ensures c.odd-odd.ensures c.change.ensures c.any-outside.ensures
    c.change-2.ensures c.decide.ensures in
    omega (arith, (one_lost c.requires.0 c.args.row c.requires.1 _ decides _ _ c.in-Lost.is).0)

pub returns-in-Lost : goal.returns-in-Lost
returns-in-Lost c =
    let decides = decides_turned c.requires.0 c.args.row c.requires.1 _ c.mark-mark.ensures c.odd-odd.ensures c.change.ensures c.any-outside.ensures
    c.change-2.ensures c.decide.ensures in
    (one_lost c.requires.0 c.args.row c.requires.1 _ decides _ _ c.in-Lost.is).1

pub returns-then-outside-eq0 : goal.returns-then-outside-eq0
returns-then-outside-eq0 c =
    let decides = decides_turned c.requires.0 c.args.row c.requires.1 _ c.mark-mark.ensures c.odd-odd.ensures c.change.ensures c.any-outside.ensures
    c.change-2.ensures c.decide.ensures in
    let left : c.any-outside.result ≡ left_lanes (mark (rows c.args.found.site.shape) c.args.row) c.args.found.sums.words =
    rw (c.change.ensures, c.odd-odd.ensures, c.mark-mark.ensures) at c.any-outside.ensures in
    let flipped = rw (c.odd-odd.ensures, left) at c.flip.ensures in
    rw (c.odd-odd.ensures, left) (one_alone c.requires.0 c.args.row c.requires.1 _ decides c.in_default.not-Lost _ flipped (sym left ∙ c.if-outside-eq0.true))

pub returns : goal.returns
returns c =
    let decides = decides_turned c.requires.0 c.args.row c.requires.1 _ c.mark-mark.ensures c.odd-odd.ensures c.change.ensures c.any-outside.ensures
    c.change-2.ensures c.decide.ensures in
    let left : c.any-outside.result ≡ left_lanes (mark (rows c.args.found.site.shape) c.args.row) c.args.found.sums.words =
    rw (c.change.ensures, c.odd-odd.ensures, c.mark-mark.ensures) at c.any-outside.ensures in
    let flipped = rw (c.odd-odd.ensures, left) at c.flip.ensures in
    rw (c.odd-odd.ensures, left)
    (one_visited c.requires.0 c.args.row c.requires.1 _ decides c.in_default.not-Lost _ flipped _ c.visit_accepted.ensures.leaves)
