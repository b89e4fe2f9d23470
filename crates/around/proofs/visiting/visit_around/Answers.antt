-- `around::visiting::visit_around` meets its contract: refused, no row named, valid where it lies, or mended around them. Assumes nothing.
use mathlib.Core.Path.{◌∙◌}
use Rattle.refusal.proofs.Answered.{passed_on}
use Rattle.layout.proofs.Sites.{located, refused}
use Rattle.around.proofs.Lent.{no_row, one_row, some_rows}
use Rattle.around.proofs.Promised.{none_visited, visit_refused, site_refused, list_refused, clean_promised, mends_promised, looked_at, few, taken_fine}
use Rattle.around.proofs.visiting.visit_around.Goals as goal

pub returns-in_err-visit : goal.returns-in_err-visit
returns-in_err-visit c = rw (no_row c.args.list.now c.in_default.len_below, passed_on c.from_residual.ensures.1) (visit_refused _ _ _ c.in_err-visit.ensures)

pub returns-in_default : goal.returns-in_default
returns-in_default c = rw (no_row c.args.list.now c.in_default.len_below, c.from.ensures) (none_visited _ _ _ c.in_ok-visit.ensures)

pub returns-in_err-site : goal.returns-in_err-site
returns-in_err-site c = rw (passed_on c.from_residual-in_err-site.ensures.1) (site_refused _ _ _ _ _ (refused _ _ _ c.in_err-site.ensures))

pub returns-in_err-check_named : goal.returns-in_err-check_named
returns-in_err-check_named c =
    rw (passed_on c.from_residual-in_err-check_named.ensures.1)
    (list_refused _ (located _ _ _ c.in_ok-site.ensures) _ c.rows.ensures c.in_err-check_named.ensures)

pub returns-in-Clean : goal.returns-in-Clean
returns-in-Clean c =
    clean_promised _ (located _ _ _ c.in_ok-site.ensures) _ c.rows.ensures c.in_ok-check_named.ensures c.look.ensures c.in-Clean.is

pub around_one-requires : goal.around_one-requires
around_one-requires c =
    let there = located _ _ _ c.in_ok-site.ensures in
    let rows = one_row c.args.list.now c.in-len1-up.len_at_least c.in-empty.len_below in
    (looked_at _ there c.look.ensures c.in_default-look.not-Clean, taken_fine _ there _ c.rows.ensures c.in_ok-check_named.ensures rows)

pub around_more-requires : goal.around_more-requires
around_more-requires c =
    let there = located _ _ _ c.in_ok-site.ensures in
    let upto = few _ there _ c.rows.ensures c.in_ok-check_named.ensures in
    let rows = some_rows c.args.list.now c.in-len1-up.len_at_least c.in-len1-up-others.len_at_least upto (c.copied.ensures ∙ c.first.ensures.value) in
    (looked_at _ there c.look.ensures c.in_default-look.not-Clean, taken_fine _ there _ c.rows.ensures c.in_ok-check_named.ensures rows)

pub returns-in-empty : goal.returns-in-empty
returns-in-empty c =
    mends_promised _ (located _ _ _ c.in_ok-site.ensures) _ c.rows.ensures c.in_ok-check_named.ensures
    (one_row c.args.list.now c.in-len1-up.len_at_least c.in-empty.len_below) c.around_one.ensures

pub returns-in-len1-up-others : goal.returns-in-len1-up-others
returns-in-len1-up-others c =
    let there = located _ _ _ c.in_ok-site.ensures in
    let upto = few _ there _ c.rows.ensures c.in_ok-check_named.ensures in
    mends_promised _ there _ c.rows.ensures c.in_ok-check_named.ensures
    (some_rows c.args.list.now c.in-len1-up.len_at_least c.in-len1-up-others.len_at_least upto (c.copied.ensures ∙ c.first.ensures.value))
    c.around_more.ensures
