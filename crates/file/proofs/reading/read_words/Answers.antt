-- One word more is copied. Assumes nothing.
use Rattle.std.proofs.Common.{◌≢◌, ◌<◌, length, arith, below_more, get_or-set_other, get_or-set_same, length-drop, ℕ}
use Rattle.std.proofs.lemmas.List.{length-take}
use Rattle.ground.proofs.Lists.{list_is}
use Rattle.file.specs.Bytes.{words_in}
use Rattle.file.proofs.BigEndian.{word_after}
use Rattle.file.proofs.reading.read_words.Goals as goal

pub loop-k-preserved : goal.loop-k-preserved
loop-k-preserved c =
    let k = c.loop-k.k in
    let bytes = c.args.bytes.now in
    let lt : k < length c.loop-k.image = omega arith in
    let read = word_after bytes 9 _ k _ (omega (arith, length-take {A = ℕ}, length-drop {A = ℕ})) c.as_chunks.ensures.front in
    below_more _ _ (λ j h. let ne : j ≢ k = omega arith in rw get_or-set_other (c.loop-k.invariant j h)) (rw get_or-set_same (grind (arith, read)))

pub returns : goal.returns
unfolding words_in
returns c = list_is _ _ _ (omega arith) (λ j h. c.loop-k.invariant j (omega arith))
