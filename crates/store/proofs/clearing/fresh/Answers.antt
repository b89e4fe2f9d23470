-- `store::clearing::fresh` meets its contract: refused and left, or zeros, as they are stored. Assumes nothing.
use native.Mathlib.Omega.{arith}
use Rattle.std.proofs.Common.{rules}
use Rattle.std.proofs.lemmas.Grind.{common_steps}
use Rattle.store.proofs.Cleared.{fresh_made}
use Rattle.store.proofs.clearing.fresh.Goals as goal

pub returns : goal.returns
returns c = fresh_made _ _ (search rules) c.complement_image.ensures (grind (arith, common_steps))
