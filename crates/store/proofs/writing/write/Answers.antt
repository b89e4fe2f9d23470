-- `store::writing::write` meets its contract, refusal by refusal; past them it is the valid block that is scattered. Assumes nothing.
use native.Mathlib.Omega.{arith}
use lib.ListN.{length}
use Rattle.refusal.specs.declared.Refusal.TheVariants.{BadList}
use Rattle.refusal.proofs.Answered.{passed_on}
use Rattle.layout.proofs.Sites.{located}
use Rattle.store.proofs.Calls.{write_refused, write_stored}
use Rattle.store.proofs.Located.{inside, data_refused, list_refused}
use Rattle.store.proofs.writing.write.Goals as goal

pub returns-in_err-site : goal.returns-in_err-site
returns-in_err-site c =
    rw (passed_on c.from_residual.ensures.1) (write_refused _ _ _ _ _ (data_refused _ _ _ (length c.args.list.now) c.in_err-site.ensures))

pub returns-then-list-words : goal.returns-then-list-words
returns-then-list-words c =
    write_refused _ _ _ BadList _ (list_refused _ _ _ (located _ _ _ c.in_ok-site.ensures) _ (λ e. omega arith))

pub scatter-requires : goal.scatter-requires
scatter-requires c = inside _ _ _ (located _ _ _ c.in_ok-site.ensures)

pub returns : goal.returns
returns c = write_stored _ (located _ _ _ c.in_ok-site.ensures) _ _ _ (omega arith) c.encode-valid.ensures c.scatter.ensures
