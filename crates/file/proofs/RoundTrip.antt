-- What is read from the file of an image is that image, and the file of what was read is the file. Assumes nothing.
use Prim.Native.Nat.{ℕ, zero, suc, ◌+◌, ◌-◌, ◌*◌, ◌/◌, ◌%◌, ◌≤◌, ◌<◌}
use mathlib.Core.Path.{◌≡◌, refl, sym, ap, ap₂, ◌∙◌}
use mathlib.Core.List.{List, [], ◌∷◌, ◌++◌}
use native.Mathlib.Omega.{arith}
use borrow.Author.Tests.{eq-eqb, le-ltb}
use lib.ListN.{length, get_or, take, drop, length-drop}
use lib.Seq.{drop-append_seam}
use Rattle.std.proofs.lemmas.List.{get_or-take, get_or-drop, take-append-drop, drop_all, drop-drop, length-take}
use Rattle.ground.specs.Lists.{list_of}
use Rattle.ground.proofs.Lists.{list_is, list_of_same}
use Rattle.ground.specs.Ladder.{◌then◌}
use Rattle.layout.specs.declared.Layout.{Layout}
use Rattle.layout.specs.Layout.{layout_of}
use Rattle.layout.specs.Refusal.{image_refusal}
use Rattle.file.specs.BigEndian.{pair_of, pair_bytes, word_of, word_bytes, word_at}
use Rattle.file.specs.Bytes.{FittingBytes, bytes_of, head_of, file_of, file_length, version_in, field_in, layout_in, word_count, word_in, words_in, image_in}
use Rattle.file.specs.Refusal.{long_rung, frame_refusal, body_refusal, file_refusal}
use Rattle.file.proofs.BigEndian.{word_dropped}
use Rattle.file.proofs.Ladder.{Accepted, accepted, body_words}
use Rattle.file.proofs.Layouts.{length_words}

-- ---- numbers and their bytes

pub pair_read : (n : ℕ) → pair_of (n / 256) (n % 256) ≡ n
pair_read n = omega arith

pub word_read : (n : ℕ) → word_of (n / 16777216) (n / 65536 % 256) (n / 256 % 256) (n % 256) ≡ n
word_read n = omega arith

pub pair_bytes_lem : (a b : ℕ) → b < 256 → pair_bytes (pair_of a b) ≡ a ∷ b ∷ []
pair_bytes_lem a b h =
    let first : pair_of a b / 256 ≡ a = omega arith in
    let second : pair_of a b % 256 ≡ b = omega arith in
    rw (first, second)

pub word_bytes_lem : (a b c d : ℕ) → b < 256 → c < 256 → d < 256 → word_bytes (word_of a b c d) ≡ a ∷ b ∷ c ∷ d ∷ []
word_bytes_lem a b c d hb hc hd =
    let first : word_of a b c d / 16777216 ≡ a = omega arith in
    let second : word_of a b c d / 65536 % 256 ≡ b = omega arith in
    let third : word_of a b c d / 256 % 256 ≡ c = omega arith in
    let fourth : word_of a b c d % 256 ≡ d = omega arith in
    rw (first, second, third, fourth)

-- a word past the front of a list
word_past : (front rest : List ℕ) (n : ℕ) → word_at (front ++ rest) (length front + n) ≡ word_at rest n
word_past front rest n =
    sym (word_dropped (length front) (front ++ rest) n) ∙ ap (λ (l : List ℕ). word_at l n) (drop-append_seam front rest)

-- ---- from an image to its file and back

pub length_bytes : (words : List ℕ) → length (bytes_of words) ≡ 4 * length words
unfolding bytes_of
length_bytes [] = refl
length_bytes (word ∷ words) = omega (arith, length_bytes words)

word_back : (words : List ℕ) (k : ℕ) → k < length words → get_or words k 0 ≡ word_at (bytes_of words) (4 * k)
unfolding bytes_of
word_back [] k h = absurd (omega arith)
word_back (word ∷ words) zero h = sym (word_read word)
word_back (word ∷ words) (suc k) h =
    let next : 4 * suc k ≡ 4 + 4 * k = omega arith in
    word_back words k (omega arith) ∙ sym (word_past (word_bytes word) (bytes_of words) (4 * k)) ∙ ap (word_at (word_bytes word ++ bytes_of words)) (sym next)

then_none : (number : ℕ) → number then 0 ≡ number
then_none zero = refl
then_none (suc number) = refl

module _ (layout : Layout) (words : List ℕ) where
  pub length_file : length (file_of layout words) ≡ file_length (length words)
  unfolding file_of
  length_file = omega (arith, length_bytes words)

  pub field_back : field_in (file_of layout words) ≡ 4 + 4 * length words
  unfolding file_of
  field_back = word_read (4 + 4 * length words)

  pub layout_back : layout_in (file_of layout words) ≡ layout
  unfolding file_of
  layout_back = ap (λ (g : ℕ). layout_of layout.shape layout.s g) (pair_read layout.g)

  -- what is read of an image's file is the image
  pub words_back : words_in (file_of layout words) ≡ words
  unfolding words_in file_of
  words_back =
      let count : word_count (length (file_of layout words)) ≡ length words = omega (arith, length_file) in
      ap (λ (n : ℕ). list_of n (word_in (file_of layout words))) count
      ∙ sym (list_is (length words) words (word_in (file_of layout words)) refl
      (λ k h. word_back words k h ∙ sym (word_past (head_of layout (length words)) (bytes_of words) (4 * k))))

  pub version_back : version_in (file_of layout words) ≡ 2
  unfolding file_of
  version_back = refl

  pub image_back : image_in (file_of layout words) ≡ words
  image_back = rw version_back words_back

  frame_back : frame_refusal (file_of layout words) ≡ long_rung (file_length (length words))
  unfolding frame_refusal
  frame_back =
      let file = file_of layout words in
      let field : field_in file ≡ length file - 5 = omega (arith, field_back, length_file) in
      let long : 9 ≤ length file = omega (arith, length_file) in
      rw (version_back, le-ltb (length file) 9 long, eq-eqb (field_in file) (length file - 5) field, length_file)
      (then_none (long_rung (file_length (length words))))

  body_back : body_refusal (length (file_of layout words) - 9) layout ≡ image_refusal (length words) layout
  body_back =
      let body : length (file_of layout words) - 9 ≡ 4 * length words = omega (arith, length_file) in
      let even : 4 * length words % 4 ≡ 0 = omega arith in
      let whole : 4 * length words / 4 ≡ length words = omega arith in
      rw body (body_words (4 * length words) layout even ∙ ap (λ (n : ℕ). image_refusal n layout) whole)

  -- and the file is refused as the image's layout is, but for its length
  pub refusal_back : file_refusal (file_of layout words) ≡ long_rung (file_length (length words)) then image_refusal (length words) layout
  unfolding file_refusal file_of
  refusal_back = rw (frame_back, layout_back) (ap (λ (n : ℕ). long_rung (file_length (length words)) then n) body_back)

-- ---- from a file to its image and back

-- bytes from a place on, one by one
taken : (bytes : List ℕ) (at n : ℕ) → at + n ≤ length bytes → take n (drop at bytes) ≡ list_of n (λ k. get_or bytes (at + k) 0)
taken bytes at n h =
    list_is n (take n (drop at bytes)) _ (omega (arith, length-take {A = ℕ}, length-drop {A = ℕ}))
    (λ k l. get_or-take n (drop at bytes) k 0 l ∙ get_or-drop at bytes k 0)

module _ (bytes : List ℕ) (small : FittingBytes bytes) where
  word_again : (at : ℕ) → at + 4 ≤ length bytes → word_bytes (word_at bytes at) ≡ take 4 (drop at bytes)
  unfolding list_of
  word_again at h =
      let zeroth : at ≡ at + 0 = omega arith in
      rw (taken bytes at 4 h, ← zeroth) (word_bytes_lem (get_or bytes at 0) _ _ _ (small (at + 1)) (small (at + 2)) (small (at + 3)))

  words_again : (n at : ℕ) → length bytes ≡ at + 4 * n → bytes_of (list_of n (λ k. word_at bytes (at + 4 * k))) ≡ drop at bytes
  unfolding bytes_of list_of
  words_again zero at e = sym (drop_all at bytes (omega arith))
  words_again (suc n) at e =
      let zeroth : at + 4 * 0 ≡ at = omega arith in
      let rest : list_of n (λ k. word_at bytes (at + 4 * suc k)) ≡ list_of n (λ k. word_at bytes (at + 4 + 4 * k)) =
      list_of_same n _ _ (λ k h. let next : at + 4 * suc k ≡ at + 4 + 4 * k = omega arith in ap (word_at bytes) next) in
      rw (zeroth, rest)
      (ap₂ ◌++◌ (word_again at (omega arith)) (words_again n (at + 4) (omega arith) ∙ sym (drop-drop 4 at bytes))
      ∙ take-append-drop 4 (drop at bytes))

  -- the header that is written of what was read is that of the file, but for the version
  head_again : Accepted bytes → (count : ℕ) → count ≡ word_count (length bytes) → head_of (layout_in bytes) count ≡ 2 ∷ take 8 (drop 1 bytes)
  unfolding list_of
  head_again ok count is =
      let field : 4 + 4 * count ≡ field_in bytes = omega (arith, is, ok.body, ok.frame.field) in
      let all : 1 + 8 ≤ length bytes = ok.frame.least in
      rw (field, taken bytes 1 8 all)
      (ap₂ (λ (field groups : List ℕ). 2 ∷ field ++ get_or bytes 5 0 ∷ get_or bytes 6 0 ∷ groups)
      (word_bytes_lem (get_or bytes 1 0) _ _ _ (small 2) (small 3) (small 4))
      (pair_bytes_lem (get_or bytes 7 0) _ (small 8)))

in_two : (bytes : List ℕ) → version_in bytes ≡ 2 → (2 ∷ take 8 (drop 1 bytes)) ++ drop 9 bytes ≡ bytes
in_two [] version = absurd (omega arith)
in_two (v ∷ rest) version = ap₂ (λ (v : ℕ) (l : List ℕ). v ∷ l) (sym version) (take-append-drop 8 rest)

module _ (bytes : List ℕ) (small : FittingBytes bytes) (e : file_refusal bytes ≡ 0) where
  -- the file of an image of as many words as were read: the header again, with version 2
  pub file_renewed : (image : List ℕ) → length image ≡ word_count (length bytes)
      → file_of (layout_in bytes) image ≡ (2 ∷ take 8 (drop 1 bytes)) ++ bytes_of image
  unfolding file_of
  file_renewed image size = ap (λ (head : List ℕ). head ++ bytes_of image) (head_again bytes small (accepted bytes e) (length image) size)

  -- the file of what was read from a file of version 2 is that file
  pub file_back : version_in bytes ≡ 2 → file_of (layout_in bytes) (words_in bytes) ≡ bytes
  unfolding words_in
  file_back version =
      let ok = accepted bytes e in
      let words = words_again bytes small (word_count (length bytes)) 9 (omega (arith, ok.body, ok.frame.least)) in
      file_renewed (words_in bytes) (length_words bytes)
      ∙ ap (λ (words : List ℕ). (2 ∷ take 8 (drop 1 bytes)) ++ words) words
      ∙ in_two bytes version
