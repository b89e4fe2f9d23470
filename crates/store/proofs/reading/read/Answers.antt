-- `store::reading::read` meets its contract: refused, clean with the data where they lie, lost with the buffer as it was, or mended. Assumes nothing.
use mathlib.Core.Path.{refl, sym}
use native.Mathlib.Omega.{arith}
use lib.ListN.{length}
use Rattle.refusal.specs.declared.Refusal.TheVariants.{BadList}
use Rattle.refusal.proofs.Answered.{passed_on}
use Rattle.layout.proofs.Sites.{located}
use Rattle.store.proofs.Calls.{read_refused, read_lost, read_data, read_clean}
use Rattle.store.proofs.Located.{inside, data_refused, list_refused}
use Rattle.store.proofs.Strides.{mended_size, mended_whole, clean_there, sums_there, data_there, data_gathered}
use Rattle.block.proofs.Told.{not_lost}
use Rattle.store.proofs.reading.read.Goals as goal

pub returns-in_err-site : goal.returns-in_err-site
returns-in_err-site c =
    rw (passed_on c.from_residual.ensures.1) (read_refused _ _ _ _ _ (data_refused _ _ _ (length c.args.buffer.now) c.in_err-site.ensures))

pub returns-then-buffer-words : goal.returns-then-buffer-words
returns-then-buffer-words c =
    read_refused _ _ _ BadList _ (list_refused _ _ _ (located _ _ _ c.in_ok-site.ensures) _ (λ e. omega arith))

pub returns-in-Clean : goal.returns-in-Clean
returns-in-Clean c =
    let there = located _ _ _ c.in_ok-site.ensures in
    let room = inside _ _ _ there in
    read_clean _ there (clean_there _ _ _ _ room c.in-Clean.ensures) c.args.buffer.now _ (omega arith)
    (data_there _ _ _ _ room c.data_into.ensures)

pub in_doubt-verdict-requires : goal.in_doubt-verdict-requires
in_doubt-verdict-requires c =
    let room = inside _ _ _ (located _ _ _ c.in_ok-site.ensures) in
    (room, sums_there _ _ _ _ room c.look.ensures c.in_default.not-Clean, refl)

pub returns-in-Lost : goal.returns-in-Lost
returns-in-Lost c =
    read_lost _ (located _ _ _ c.in_ok-site.ensures) _ c.in_doubt-verdict.ensures.verdict c.args.buffer.now (omega arith) _ _ c.in-Lost.is

pub returns : goal.returns
returns c =
    let told = c.in_doubt-verdict.ensures in
    let mended = mended_whole _ _ _ _ (not_lost _ _ _ told.verdict c.in_default-verdict.not-Lost) told.mended in
    read_data _ (located _ _ _ c.in_ok-site.ensures) _ told.verdict c.args.buffer.now (omega arith) c.in_default-verdict.not-Lost _ _ mended
    (data_gathered _ (mended_size _ _ _ _ mended) c.data_of.ensures)

pub slice_bounds-data_of-end : goal.slice_bounds-data_of-end
slice_bounds-data_of-end c =
    let told = c.in_doubt-verdict.ensures in
    sym (mended_size _ _ _ _ (mended_whole _ _ _ _ (not_lost _ _ _ told.verdict c.in_default-verdict.not-Lost) told.mended))
