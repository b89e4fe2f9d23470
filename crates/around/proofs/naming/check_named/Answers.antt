-- `around::naming::check_named` meets its contract, row by row. Assumes nothing.
use Prim.Native.Nat.{◌≤◌}
use mathlib.Core.Bool.{true}
use mathlib.Core.Path.{◌≡◌, sym, ◌∙◌}
use lib.ListN.{get_or, drop}
use native.Mathlib.Omega.{arith}
use Rattle.std.proofs.lemmas.List.{take_rest}
use Rattle.std.proofs.lemmas.Grind.{common_steps}
use Rattle.around.specs.Refusal.{misnamed?}
use Rattle.around.proofs.Lent.{row_passed, row_outside, row_again, none_left, refused_many, refused_row, refused_none}
use Rattle.around.proofs.naming.check_named.Goals.{then-not-contains-via-then-not-contains, then-not-contains-via-else-not-contains+then-contains}
use Rattle.around.proofs.naming.check_named.Goals as goal

pub returns-then-list-gt-MOST_NAMED : goal.returns-then-list-gt-MOST_NAMED
returns-then-list-gt-MOST_NAMED c = sym (refused_many _ _ c.if-list-gt-MOST_NAMED.true)

pub returns-then-not-contains : goal.returns-then-not-contains
returns-then-not-contains c =
    let args = c.args in
    let list = args.list.now in
    let bad : misnamed? args.last (drop c.loop-k.k list) ≡ true =
    elim c.then-not-contains.branch [
      | then-not-contains-via-then-not-contains w ↦
          (let out = w.if-not-contains.true in row_outside args.last list c.loop-k.k c.loop-k-test.true (λ low high. grind (arith, common_steps)))
      | then-not-contains-via-else-not-contains+then-contains w ↦
          row_again args.last list c.loop-k.k c.loop-k-test.true
          (sym (rw take_rest at w.contains-else-not-contains.ensures.value) ∙ w.if-contains.true)
    ] in
    sym (refused_row args.last list c.if-list-gt-MOST_NAMED.false (c.loop-k.invariant ∙ bad))

pub loop-k-preserved : goal.loop-k-preserved
loop-k-preserved c =
    let low : 1 ≤ get_or c.args.list.now c.loop-k.k 0 = grind (arith, common_steps) in
    let high : get_or c.args.list.now c.loop-k.k 0 ≤ c.args.last = grind (arith, common_steps) in
    c.loop-k.invariant
    ∙ row_passed c.args.last c.args.list.now c.loop-k.k c.loop-k-test.true low high
    (sym (rw take_rest at c.contains-else-not-contains.ensures.value) ∙ c.if-contains.false)

pub returns : goal.returns
returns c =
    let args = c.args in
    sym
    (refused_none args.last args.list.now c.if-list-gt-MOST_NAMED.false
    (c.loop-k.invariant ∙ none_left args.last args.list.now c.loop-k.k c.loop-k-test.false))
