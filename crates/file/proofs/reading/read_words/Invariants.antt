-- The first k words are copied. Assumes nothing.
use Rattle.std.proofs.Common.{◌≡◌, ◌<◌, ℕ, get_or}
use Rattle.file.specs.Bytes.{word_in}
use Rattle.file.proofs.reading.read_words.Given as goal

abbrev pub invariant-loop-k : goal.invariant-loop-k
invariant-loop-k l = (j : ℕ) → j < l.k → get_or l.image j 0 ≡ word_in l.bytes j
