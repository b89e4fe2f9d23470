-- `stored::complement_words` meets its contract. The loop's invariant: the words before the index are complemented. Assumes nothing.
use mathlib.Core.Path.{◌≡◌}
use Rattle.std.proofs.Common.{map, take, drop, ◌++◌}
use Rattle.stored.specs.Stored.{flipped}
use Rattle.stored.proofs.complement_words.Given as goal

abbrev pub invariant-loop-word : goal.invariant-loop-word
invariant-loop-word l = l.words ≡ map flipped (take l.word-index l.initial.words) ++ drop l.word-index l.initial.words
