-- `store::visiting::visit` meets its contract: refused, mended, or valid where it lies. Assumes nothing.
use Rattle.refusal.proofs.Answered.{passed_on}
use Rattle.layout.proofs.Sites.{refused, located}
use Rattle.store.proofs.Calls.{visit_refused, visit_found, visit_clean}
use Rattle.store.proofs.Located.{inside}
use Rattle.store.proofs.Strides.{clean_there, sums_there}
use Rattle.store.proofs.visiting.visit.Goals as goal

pub returns-in_err-site : goal.returns-in_err-site
returns-in_err-site c = rw (passed_on c.from_residual.ensures.1) (visit_refused _ _ _ _ (refused _ _ _ c.in_err-site.ensures))

pub returns-in-Clean : goal.returns-in-Clean
returns-in-Clean c =
    let there = located _ _ _ c.in_ok-site.ensures in
    visit_clean _ there (clean_there _ _ _ _ (inside _ _ _ there) c.in-Clean.ensures)

pub mend_in_place-requires : goal.mend_in_place-requires
mend_in_place-requires c =
    let room = inside _ _ _ (located _ _ _ c.in_ok-site.ensures) in
    (room, sums_there _ _ _ _ room c.look.ensures c.in_default.not-Clean)

pub returns : goal.returns
returns c = visit_found _ (located _ _ _ c.in_ok-site.ensures) _ c.mend_in_place.ensures.verdict _ c.mend_in_place.ensures.after
