-- The first k words are put. Assumes nothing.
use Rattle.std.proofs.Common.{◌≡◌, ◌*◌, ◌++◌, take, drop}
use Rattle.file.specs.Bytes.{bytes_of}
use Rattle.file.proofs.writing.put_words.Given as goal

abbrev pub invariant-loop-k : goal.invariant-loop-k
invariant-loop-k l = l.bytes ≡ bytes_of (take l.k l.image) ++ drop (4 * l.k) l.initial.bytes
