-- `around::solving::solve` meets its contract, by how many rows there are and where the third differs. Assumes nothing.
use mathlib.Core.Path.{◌≡◌, ap}
use native.Mathlib.Omega.{arith}
use Rattle.shape.specs.Shape.{rows}
use Rattle.sums.proofs.WordBits.{digit_one, digit_zero}
use Rattle.std.specs.Prelude.{ℕ, Option}
use Rattle.around.specs.Inner.{mark, row_or_none}
use Rattle.around.proofs.Calls.{three, third_there}
use Rattle.around.proofs.Taken.{lowest_digit, apart, third_mark, two_solved, bc_solved, ac_solved, named_marks, some_mark}
use Rattle.around.proofs.solving.solve.Goals as goal

pub mark-a-requires : goal.mark-a-requires
mark-a-requires c = (three _ _ _ _ c.requires).a_row

pub mark-b-requires : goal.mark-b-requires
mark-b-requires c = (three _ _ _ _ c.requires).b_row

pub mark-c-requires : goal.mark-c-requires
mark-c-requires c = third_there _ _ _ _ c.requires _ c.in-Some.is

pub take_out-told-requires : goal.take_out-told-requires
take_out-told-requires c =
    let marks = named_marks _ _ _ _ c.requires in
    rw (c.mark-a.ensures, c.mark-b.ensures) (apart _ _ marks.a_mark.1 marks.b_mark.1 marks.a_b)

pub returns-in_default : goal.returns-in_default
returns-in_default c =
    rw (c.take_out-told.ensures.sums, c.take_out-told.ensures.lanes, c.change.ensures, c.odd-odd.ensures, c.mark-a.ensures, c.mark-b.ensures)
    (two_solved c.args.sums.now.words (named_marks _ _ _ _ c.requires) (ap (λ (t : Option ℕ). mark (rows c.args.shape) (row_or_none t)) c.in_default.is))

pub overflow_shr-ac : goal.overflow_shr-ac
overflow_shr-ac c =
    let marks = named_marks _ _ _ _ c.requires in
    let some = apart _ _ marks.a_mark.1 marks.b_mark.1 marks.a_b in
    let low = (lowest_digit _ some.0 some.1).0 in
    rw (c.mark-a.ensures, c.mark-b.ensures) (omega (arith, low))

pub take_out-third-requires : goal.take_out-third-requires
take_out-third-requires c =
    let marks = named_marks _ _ _ _ c.requires in
    let third = third_mark marks (some_mark _ _ _ _ c.requires _ c.in-Some.is) in
    rw (c.mark-b.ensures, c.mark-c.ensures, ← ap row_or_none c.in-Some.is) (apart _ _ marks.b_mark.1 third.1 marks.b_c)

pub returns-then-ac-ab-eq1 : goal.returns-then-ac-ab-eq1
returns-then-ac-ab-eq1 c =
    let is : row_or_none c.args.c ≡ c.in-Some.row = ap row_or_none c.in-Some.is in
    rw (
      c.take_out-third.ensures.sums,
      c.take_out-third.ensures.lanes,
      c.take_out-told.ensures.sums,
      c.take_out-told.ensures.lanes,
      c.change.ensures,
      c.odd-odd.ensures,
      c.mark-a.ensures,
      c.mark-b.ensures,
      c.mark-c.ensures,
      ← is,
    )
    (bc_solved c.args.sums.now.words (named_marks _ _ _ _ c.requires) (some_mark _ _ _ _ c.requires _ c.in-Some.is)
    (digit_one _ _ (rw (c.mark-a.ensures, c.mark-b.ensures, c.mark-c.ensures, ← is) at c.if-ac-ab-eq1.true)))

pub take_out-third-requires-2 : goal.take_out-third-requires-2
take_out-third-requires-2 c =
    let marks = named_marks _ _ _ _ c.requires in
    let third = third_mark marks (some_mark _ _ _ _ c.requires _ c.in-Some.is) in
    rw (c.mark-a.ensures, c.mark-c.ensures, ← ap row_or_none c.in-Some.is) (apart _ _ marks.a_mark.1 third.1 marks.a_c)

pub returns : goal.returns
returns c =
    let is : row_or_none c.args.c ≡ c.in-Some.row = ap row_or_none c.in-Some.is in
    rw (
      c.take_out-third-2.ensures.sums,
      c.take_out-third-2.ensures.lanes,
      c.take_out-told.ensures.sums,
      c.take_out-told.ensures.lanes,
      c.change.ensures,
      c.odd-odd.ensures,
      c.mark-a.ensures,
      c.mark-b.ensures,
      c.mark-c.ensures,
      ← is,
    )
    (ac_solved c.args.sums.now.words (named_marks _ _ _ _ c.requires) (some_mark _ _ _ _ c.requires _ c.in-Some.is)
    (digit_zero _ _ (rw (c.mark-a.ensures, c.mark-b.ensures, c.mark-c.ensures, ← is) at c.if-ac-ab-eq1.false)))
