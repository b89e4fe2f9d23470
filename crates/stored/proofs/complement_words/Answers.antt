-- `stored::complement_words` meets its contract. Assumes nothing.
use native.Mathlib.Omega.{arith}
use lib.ListN.{get_or}
use Rattle.std.proofs.lemmas.List.{get_or_default}
use Rattle.std.proofs.lemmas.List.Edits.{map_over_more}
use Rattle.stored.specs.Stored.{flipped}
use Rattle.stored.proofs.complement_words.Goals as goal

pub loop-word-preserved : goal.loop-word-preserved
loop-word-preserved c =
    let l = c.loop-word in
    map_over_more flipped _ _ _ _ (omega arith) l.invariant
    (get_or_default l.words l.word-index 0 (get_or l.words l.word-index 0) (omega arith))
