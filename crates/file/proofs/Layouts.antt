-- The words of a file, and the layout that its header names. Assumes nothing.
use Prim.Native.Nat.{ℕ, ◌-◌}
use mathlib.Core.Path.{◌≡◌, sym, ◌∙◌}
use mathlib.Core.List.{List}
use native.Mathlib.Omega.{arith}
use lib.ListN.{length}
use Rattle.ground.proofs.Lists.{length_list_of}
use Rattle.layout.specs.Refusal.{image_refusal}
use Rattle.file.specs.Bytes.{layout_in, word_count, word_in, words_in}
use Rattle.file.specs.Refusal.{file_refusal}
use Rattle.file.proofs.Ladder.{accepted, body_words, frame_passed}

pub length_words : (bytes : List ℕ) → length (words_in bytes) ≡ word_count (length bytes)
unfolding words_in
length_words bytes = length_list_of (word_count (length bytes)) (word_in bytes)

-- the words of a file that is accepted are of the layout that its header names
pub words_layout : (bytes : List ℕ) → file_refusal bytes ≡ 0 → image_refusal (word_count (length bytes)) (layout_in bytes) ≡ 0
words_layout bytes e =
    let ok = accepted bytes e in
    sym (body_words (length bytes - 9) (layout_in bytes) (omega (arith, ok.body)))
    ∙ sym (frame_passed bytes ok.framed_whole)
    ∙ e

pub words_held : (bytes : List ℕ) → file_refusal bytes ≡ 0 → image_refusal (length (words_in bytes)) (layout_in bytes) ≡ 0
words_held bytes e = rw (length_words bytes) (words_layout bytes e)
