-- The bytes of a file as the writer puts them, and what holds where nothing is refused of an image that is to be written. Assumes nothing.
use Prim.Native.Nat.{ℕ, ◌+◌, ◌*◌, ◌≤◌, ◌<◌, ◌^◌}
use mathlib.Core.Path.{◌≡◌, refl, sym, ap, ap₂, ◌∙◌}
use mathlib.Core.List.{List, [], ◌∷◌, ◌++◌}
use mathlib.Core.Logic.{⊎_elim}
use native.Mathlib.Omega.{arith}
use borrow.Author.Tests.{ltb-false}
use lib.ListN.{length, get_or, drop, take}
use lib.Seq.{drop-drop}
use Rattle.std.proofs.lemmas.List.{take_at, drop_at, drop-drop, take_more, append_assoc, append-nil, take_all, drop_all, length-take}
use Rattle.std.specs.Int.{w32, to_be_bytes}
use borrow.Rule.Slice.PartMut.{put_mid}
use Rattle.ground.proofs.Ladder.{then_zero, test_passed}
use Rattle.layout.specs.declared.Layout.{Layout}
use Rattle.layout.specs.Refusal.{image_refusal}
use Rattle.layout.proofs.Ladder.{geometry, image_layout, groups_few}
use Rattle.file.specs.BigEndian.{word_bytes}
use Rattle.file.specs.Bytes.{bytes_of, head_of, file_of, file_length, file_into}
use Rattle.file.specs.Refusal.{long_rung, write_refusal}
use Rattle.file.specs.Inner.{Small}
use Rattle.file.proofs.BigEndian.{word_bytes_std}
use Rattle.file.proofs.RoundTrip.{length_bytes, length_file}

-- ---- the words, put one after another

bytes_of_append : (words more : List ℕ) → bytes_of (words ++ more) ≡ bytes_of words ++ bytes_of more
unfolding bytes_of
bytes_of_append [] more = refl
bytes_of_append (word ∷ words) more = ap (λ (rest : List ℕ). word_bytes word ++ rest) (bytes_of_append words more)

-- one word more
pub word_put : (words bytes put : List ℕ) (k n : ℕ) → k < length words → get_or words k 0 < 2 ^ 32 → put ≡ to_be_bytes w32 (get_or words k 0) → n ≡ 4
    → put_mid (4 * k) n (bytes_of (take k words) ++ drop (4 * k) bytes) put ≡ bytes_of (take (k + 1) words) ++ drop (4 * (k + 1)) bytes
unfolding bytes_of
word_put words bytes put k n h small is four =
    let so_far = bytes_of (take k words) in
    let size : length so_far ≡ 4 * k = omega (arith, length_bytes (take k words), length-take {A = ℕ}) in
    let next : 4 * k + 4 ≡ 4 * (k + 1) = omega arith in
    let stored = is ∙ word_bytes_std (get_or words k 0) small in
    let past = drop (4 * k) bytes in
    rw (
      take_at so_far past (4 * k) size,
      drop_at so_far past (4 * k) size,
      four,
      drop-drop,
      next,
      take_more words k 0 h,
      bytes_of_append,
      stored,
    )
    (sym (append_assoc so_far (word_bytes (get_or words k 0)) (drop (4 * (k + 1)) bytes)))

-- header and words are the file
pub file_put : (layout : Layout) (words buffer put : List ℕ) (m n : ℕ) → length (drop 9 buffer) ≤ m → length (drop 9 buffer) ≤ n
    → put ≡ bytes_of words ++ drop (4 * length words) (take m (drop 9 buffer))
    → put_mid 9 n (head_of layout (length words) ++ drop 9 buffer) put ≡ file_into layout words buffer
unfolding file_of
file_put layout words buffer put m n all past is =
    let rest = drop 9 buffer in
    let size : 9 + 4 * length words ≡ length (file_of layout words) = sym (length_file layout words) in
    let body = bytes_of words ++ drop (length (file_of layout words)) buffer in
    let put_is : put ≡ body =
    is
    ∙ ap (λ (l : List ℕ). bytes_of words ++ drop (4 * length words) l) (take_all m rest all)
    ∙ ap (λ (l : List ℕ). bytes_of words ++ l) (drop-drop (4 * length words) 9 buffer ∙ ap (λ (n : ℕ). drop n buffer) size) in
    ap (λ (l : List ℕ). head_of layout (length words) ++ l) (ap₂ ◌++◌ put_is (drop_all n rest past) ∙ append-nil body)

-- ---- what holds where nothing is refused

pub small : (len : ℕ) (layout : Layout) (room : ℕ) → 0 ≡ write_refusal len layout room → Small layout len room
unfolding write_refusal
small len layout room e =
    let image = then_zero (image_refusal len layout) _ (sym e) in
    let long = then_zero (long_rung (file_length len)) _ image.1 in
    let ok = geometry layout (image_layout layout len image.0) in
    record {
      shape = ⊎_elim (λ (z : layout.shape ≡ 1). omega arith) (λ (z : layout.shape ≡ 2). omega arith) ok.shape_known;
      s = omega (arith, ok.s_last);
      g = omega (arith, groups_few layout ok);
      most = ltb-false 32768 (file_length len) (test_passed 10 _ long.0);
      fits = ltb-false room (file_length len) (test_passed 11 _ long.1);
    }
