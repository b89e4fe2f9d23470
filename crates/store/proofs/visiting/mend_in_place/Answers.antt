-- `store::visiting::mend_in_place` meets its contract: mended and scattered, or clean or lost and left as it is. Assumes nothing.
use Rattle.store.proofs.Strides.{left, mended_whole}
use Rattle.block.proofs.Told.{mended_none}
use Rattle.store.proofs.visiting.mend_in_place.Goals as goal

pub returns-in-Mended : goal.returns-in-Mended
returns-in-Mended c =
    let decided = c.in_doubt-verdict.ensures in
    let whole = mended_whole _ _ _ _ (mended_none _ _ _ decided.verdict _ c.in-Mended.is) decided.mended in
    rw (← whole) (record { verdict = decided.verdict; after = c.scatter.ensures })

pub returns : goal.returns
returns c = let says = c.in_doubt-verdict.ensures.verdict in record { verdict = says; after = left _ _ _ _ _ says c.in_default.not-Mended }
