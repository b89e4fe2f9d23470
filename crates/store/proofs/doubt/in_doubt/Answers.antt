-- `store::doubt::in_doubt` meets its contract: lost and not taken out, or the rows that are gathered, mended by their sums. Assumes nothing.
use mathlib.Core.Path.{sym, ◌∙◌}
use Rattle.ground.proofs.Choices.{refused_kept}
use Rattle.block.specs.Block.{blank}
use Rattle.block.proofs.Told.{lost_some, not_lost}
use Rattle.store.proofs.Strides.{decided_there, mended_there}
use Rattle.store.proofs.doubt.in_doubt.Goals as goal

pub returns-in-Lost : goal.returns-in-Lost
returns-in-Lost c =
    let says = decided_there _ _ _ _ c.requires.1 c.decide-verdict.ensures in
    record { verdict = says; mended = c.requires.2 ∙ sym (refused_kept _ _ blank (lost_some _ _ _ says _ _ c.in-Lost.is)) }

pub returns : goal.returns
returns c =
    let site = c.args.site in
    let says = decided_there c.args.image.now site.shape site.at site.s c.requires.1 c.decide-verdict.ensures in
    let mended = mended_there _ _ _ _ c.requires.1 (rw c.requires.2 at c.gather.ensures) c.mend.ensures in
    record { verdict = says; mended = rw (not_lost _ _ _ says c.in_default.not-Lost) mended }
