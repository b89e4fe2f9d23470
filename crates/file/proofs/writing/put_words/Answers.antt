-- One word more is put. Assumes nothing.
use Rattle.std.proofs.Common.{arith}
use mathlib.Core.Path.{refl}
use Rattle.file.specs.Bytes.{bytes_of}
use Rattle.file.proofs.Put.{word_put}
use Rattle.file.proofs.writing.put_words.Goals as goal

pub loop-k-init : goal.loop-k-init
unfolding bytes_of
loop-k-init c = refl

pub loop-k-preserved : goal.loop-k-preserved
loop-k-preserved c =
    rw c.loop-k.invariant (word_put _ _ _ _ _ (omega arith) (omega (arith, c.type_inv.image c.loop-k.k)) (grind arith) (omega arith))
