-- The stored form is its own inverse, keeps words words, and changes rows 1 and 2 alone. Assumes nothing.
use Prim.Native.Nat.{ℕ, suc, ◌^◌, ◌≤◌, ◌<◌}
use mathlib.Core.Bool.{Bool, true, false, cond}
use mathlib.Core.Path.{◌≡◌, sym, ap, ◌∙◌}
use mathlib.Core.List.{List}
use mathlib.Core.Logic.{⊎_elim}
use native.Mathlib.Omega.{arith}
use lib.Bits.{bit_xor, xor_self, xor_zero_r, xor_lt}
use lib.Dec.{leb, lit<}
use lib.ListN.{length, get_or, get_or-eq_default}
use lib.Pow.{pow_pos}
use lib.Seq.{ext_get_or}
use borrow.Author.Tests.{lt-leb}
use Rattle.lane.proofs.Bits.{xor_assoc}
use Rattle.lane.proofs.Rows.{split_below}
use Rattle.ground.proofs.Lists.{length_list_of, get_or_list_of}
use Rattle.layout.specs.declared.Layout.{Layout}
use Rattle.layout.specs.Layout.{row_at}
use Rattle.stored.specs.Stored.{ones, mask, complemented_in, complemented_by, complemented, complemented_image}

-- ---- a word

pub mask_fits : (p : ℕ) → mask p < 2 ^ 32
mask_fits p = by (leb p 2)
  where
    by : (b : Bool) → cond b ones 0 < 2 ^ 32
    by true = lit< tt
    by false = pow_pos 32

-- twice is not at all
pub word_twice : (p w : ℕ) → complemented_in p (complemented_in p w) ≡ w
word_twice p w = xor_assoc w (mask p) (mask p) ∙ ap (bit_xor w) (xor_self (mask p)) ∙ xor_zero_r w

pub word_fits : (p w : ℕ) → w < 2 ^ 32 → complemented_in p w < 2 ^ 32
word_fits p w h = xor_lt 32 w (mask p) h (mask_fits p)

-- the rows after 2 are stored as they are
pub word_kept : (p w : ℕ) → 2 < p → complemented_in p w ≡ w
word_kept p w h = rw (lt-leb p 2 h) (xor_zero_r w)

-- ---- words, whichever rows they are of

module _ (row_of : ℕ → ℕ) where
  length_by : (words : List ℕ) → length (complemented_by row_of words) ≡ length words
  length_by words = length_list_of (length words) _

  word_by : (words : List ℕ) (at : ℕ) → at < length words → get_or (complemented_by row_of words) at 0 ≡ complemented_in (row_of at) (get_or words at 0)
  word_by words at h = get_or_list_of (length words) (λ at. complemented_in (row_of at) (get_or words at 0)) at h

  twice_by : (words : List ℕ) → complemented_by row_of (complemented_by row_of words) ≡ words
  twice_by words =
      let once = complemented_by row_of words in
      ext_get_or 0 (complemented_by row_of once) words (length_by once ∙ length_by words)
      (λ at h.
      let l : at < length words = omega (arith, length_by once, length_by words) in
      word_by once at (rw (length_by words) l) ∙ ap (complemented_in (row_of at)) (word_by words at l) ∙ word_twice (row_of at) (get_or words at 0))

-- ---- a block

module _ (block : List ℕ) where
  pub length_complemented : length (complemented block) ≡ length block
  unfolding complemented
  length_complemented = length_by suc block

  pub row_complemented : (k : ℕ) → k < length block → get_or (complemented block) k 0 ≡ complemented_in (suc k) (get_or block k 0)
  unfolding complemented
  row_complemented = word_by suc block

  pub complemented_twice : complemented (complemented block) ≡ block
  unfolding complemented
  complemented_twice = twice_by suc block

  -- the words past the end are none in both forms
  pub past_complemented : (k : ℕ) → length block ≤ k → get_or (complemented block) k 0 ≡ 0
  past_complemented k h = get_or-eq_default (complemented block) 0 {n = k} (rw length_complemented h)

  -- the words after row 2 are as they are
  pub rest_complemented : (k : ℕ) → 2 ≤ k → get_or (complemented block) k 0 ≡ get_or block k 0
  rest_complemented k h =
      ⊎_elim (λ l. row_complemented k l ∙ word_kept (suc k) (get_or block k 0) (omega arith))
      (λ l. past_complemented k l ∙ sym (get_or-eq_default block 0 {n = k} l))
      (split_below k (length block))

  pub complemented_fits : ((k : ℕ) → get_or block k 0 < 2 ^ 32) → (k : ℕ) → get_or (complemented block) k 0 < 2 ^ 32
  complemented_fits fits k =
      ⊎_elim (λ l. rw (row_complemented k l) (word_fits (suc k) (get_or block k 0) (fits k)))
      (λ l. rw (past_complemented k l) (pow_pos 32))
      (split_below k (length block))

-- ---- an image

module _ (layout : Layout) (image : List ℕ) where
  pub length_image : length (complemented_image layout image) ≡ length image
  unfolding complemented_image
  length_image = length_by (row_at layout) image

  pub word_image : (at : ℕ) → at < length image → get_or (complemented_image layout image) at 0 ≡ complemented_in (row_at layout at) (get_or image at 0)
  unfolding complemented_image
  word_image = word_by (row_at layout) image

  pub image_twice : complemented_image layout (complemented_image layout image) ≡ image
  unfolding complemented_image
  image_twice = twice_by (row_at layout) image
