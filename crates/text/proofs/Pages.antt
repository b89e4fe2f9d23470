-- Texts on a page: a text in bytes, and texts one after the other. Assumes nothing.
use Prim.Native.Nat.{ℕ, ◌+◌, ◌≤◌, ◌<◌}
use mathlib.Core.Path.{◌≡◌, refl, sym, ap, ap₂, ◌∙◌}
use mathlib.Core.List.{List, [], ◌∷◌, ◌++◌, append_assoc, append-nil}
use native.Mathlib.Nat.{add-zero}
use native.Mathlib.Omega.{arith}
use borrow.Author.Tests.{le-leb, lt-leb}
use lib.ListN.{length, take, drop, length-append, length-drop, take-append-drop}
use lib.Seq.{take_at, take-length, length-take-le, drop-append-add, drop-drop}
use borrow.Rule.Slice.PartMut.{put_mid}
use Rattle.std.proofs.lemmas.Slice.{put_mid-paste}
use Rattle.text.specs.Page.{Page, page, over, written, written_all, end_to_end}

-- ---- a text in bytes

module _ (bytes : List ℕ) (at : ℕ) (text : List ℕ) where
  length_front : at ≤ length bytes → length (take at bytes ++ text) ≡ at + length text
  length_front h = length-append (take at bytes) text ∙ ap (λ (k : ℕ). k + length text) (length-take-le at bytes h)

  -- up to its end stand what was before it, and the text
  pub over_front : at ≤ length bytes → take (at + length text) (over bytes at text) ≡ take at bytes ++ text
  over_front h = take_at (take at bytes ++ text) (drop (at + length text) bytes) (at + length text) (length_front h)

  pub length_over : at + length text ≤ length bytes → length (over bytes at text) ≡ length bytes
  length_over h =
      length-append (take at bytes ++ text) (drop (at + length text) bytes)
      ∙ omega (arith, length_front (omega arith), length-drop (at + length text) bytes)

  -- a copy of the whole text
  pub copied : (k : ℕ) (copy : List ℕ) → k ≡ length text → copy ≡ text → put_mid at k bytes copy ≡ over bytes at text
  copied k copy many same = put_mid-paste at k bytes copy text k same refl many ∙ rw (many, take-length)

-- ---- a page

-- a text that fits, and one that does not
pub written_fits : (text bytes : List ℕ) (at : ℕ) → at + length text ≤ length bytes
    → written text (page bytes at) ≡ page (over bytes at text) (at + length text)
unfolding written
written_fits text bytes at h = rw (le-leb (at + length text) (length bytes) h)

pub written_not : (text bytes : List ℕ) (at : ℕ) → length bytes < at + length text → written text (page bytes at) ≡ page bytes at
unfolding written
written_not text bytes at h = rw (lt-leb (at + length text) (length bytes) h)

-- what a call leaves that has no room for a text, and one that copies it
pub leaves : (text bytes : List ℕ) (at : ℕ) → length bytes < at + length text → page bytes at ≡ written text (page bytes at)
leaves text bytes at h = sym (written_not text bytes at h)

pub copies : (text bytes copy : List ℕ) (at k : ℕ) → at + length text ≤ length bytes → k ≡ length text → copy ≡ text
    → page (put_mid at k bytes copy) (at + length text) ≡ written text (page bytes at)
copies text bytes copy at k h many same =
    ap (λ (left : List ℕ). page left (at + length text)) (copied bytes at text k copy many same) ∙ sym (written_fits text bytes at h)

-- one line more at the end
pub written_last : (lines : List (List ℕ)) (line : List ℕ) (p : Page) → written_all (lines ++ line ∷ []) p ≡ written line (written_all lines p)
unfolding written_all
written_last [] line p = refl
written_last (first ∷ lines) line p = written_last lines line (written first p)

-- ---- lines that all fit are one text

pub end_to_end_last : (lines : List (List ℕ)) (line : List ℕ) → end_to_end (lines ++ line ∷ []) ≡ end_to_end lines ++ line
unfolding end_to_end
end_to_end_last [] line = append-nil line
end_to_end_last (first ∷ lines) line =
    ap (λ (text : List ℕ). first ++ text) (end_to_end_last lines line) ∙ sym (append_assoc first (end_to_end lines) line)

pub length_last : (lines : List (List ℕ)) (line : List ℕ) → length (end_to_end (lines ++ line ∷ [])) ≡ length (end_to_end lines) + length line
length_last lines line = ap length (end_to_end_last lines line) ∙ length-append (end_to_end lines) line

over_none : (bytes : List ℕ) (at : ℕ) → over bytes at [] ≡ bytes
over_none bytes at = rw (append-nil, add-zero, take-append-drop)

over_more : (bytes : List ℕ) (at : ℕ) (line rest : List ℕ) → at ≤ length bytes
    → over (over bytes at line) (at + length line) rest ≡ over bytes at (line ++ rest)
over_more bytes at line rest h =
    let front = take at bytes ++ line in
    let size = length_front bytes at line h in
    let whole : at + length line + length rest ≡ at + length (line ++ rest) = omega (arith, length-append line rest) in
    ap₂ (λ (a b : List ℕ). a ++ rest ++ b) (over_front bytes at line h)
    (ap (λ (n : ℕ). drop (n + length rest) (over bytes at line)) (sym size)
    ∙ drop-append-add front (drop (at + length line) bytes) (length rest)
    ∙ drop-drop (length rest) (at + length line) bytes
    ∙ ap (λ (n : ℕ). drop n bytes) whole)
    ∙ ap (λ (l : List ℕ). l ++ drop (at + length (line ++ rest)) bytes) (append_assoc (take at bytes) line rest)

pub all_fit : (lines : List (List ℕ)) (bytes : List ℕ) (at : ℕ) → at + length (end_to_end lines) ≤ length bytes
    → written_all lines (page bytes at) ≡ page (over bytes at (end_to_end lines)) (at + length (end_to_end lines))
unfolding written_all end_to_end
all_fit [] bytes at h = ap₂ page (sym (over_none bytes at)) (omega arith)
all_fit (line ∷ lines) bytes at h =
    let size = length-append line (end_to_end lines) in
    ap (written_all lines) (written_fits line bytes at (omega arith))
    ∙ all_fit lines (over bytes at line) (at + length line) (omega (arith, length_over bytes at line (omega arith)))
    ∙ ap₂ page (over_more bytes at line (end_to_end lines) (omega arith)) (omega arith)
