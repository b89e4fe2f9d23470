-- The digits of a row's mark, and the lane with a one in that row alone, whose sum and parity they are. Assumes nothing.
use Prim.Native.Nat.{ℕ, zero, suc, ◌+◌, ◌≤◌, ◌<◌}
use mathlib.Core.Bool.{Bool, true, false, not, cond, ◌&&◌, ◌||◌}
use mathlib.Core.Path.{◌≡◌, refl, sym, ap, ap₂, ◌∙◌}
use mathlib.Core.Logic.{◌⊎◌, ⊎_elim, by_cases}
use native.Mathlib.Nat.{eq-or-lt_of_le, le_of_suc-le-suc, le_refl}
use native.Mathlib.Decide.{ℕ_discrete}
use native.Mathlib.Omega.{arith}
use lib.Dec.{eqb, leb, eqb-suc-zero}
use borrow.Author.Tests.{eq-eqb, ne_eqb, le-leb, lt-leb, leb-true}
use Rattle.std.proofs.Math.Bool.{or-false, or-true}
use Rattle.lane.specs.Bit.{bit, ◌⊕◌, pick}
use Rattle.lane.specs.Lane.{Lane, sum, count, odd, diff}
use Rattle.lane.proofs.Bits.{bit_zero, bit_one, bit_of_xor}
use Rattle.lane.proofs.Exactly.{pick_bit}
use Rattle.lane.proofs.Linear.{sum_same, count_same, sum_diff, odd_diff}
use Rattle.lane.proofs.Decided.{only, only_above, only_within}
use Rattle.lane.proofs.Mended.{count_empty, sum_empty}
use Rattle.sums.specs.Words.{number}
use Rattle.sums.proofs.WordBits.{number_bits, bit_number}
use Rattle.around.specs.Lane.{weight}
use Rattle.around.specs.Inner.{mark}

-- ---- the digits of a mark

-- digit 7 is set, and those below are the number's
over : (n : ℕ) → n < 128 → (k : ℕ) → k < 8 → bit k (128 + n) ≡ bit k n || eqb k 7
unfolding number
over n h k l =
    let low : n ≡ number 7 (λ j. bit j n || eqb j 7) =
    number_bits 7 n (λ j. bit j n || eqb j 7) h
    (λ j b. sym (ap (λ (t : Bool). bit j n || t) (ne_eqb j 7 (λ e. omega arith)) ∙ or-false (bit j n))) in
    ap (bit k) (top low) ∙ bit_number 8 k (λ j. bit j n || eqb j 7) l
  where
    top : n ≡ number 7 (λ j. bit j n || eqb j 7) → 128 + n ≡ number 8 (λ j. bit j n || eqb j 7)
    top low = rw (or-true (bit 7 n)) (omega arith)

module _ (m : ℕ) (small : m < 128) where
  -- below digit 7 a mark has the digits by which its row counts in the sum
  pub mark_low : (r : ℕ) → r ≤ suc m → (k : ℕ) → k < 7 → bit k (mark (suc m) r) ≡ bit k (weight m r)
  mark_low zero h k l = rw (le-leb 0 m (omega arith))
  mark_low (suc r) h k l =
      rw (eqb-suc-zero r)
      (by_cases (ℕ_discrete (suc r) (suc m))
      (λ e. rw (eq-eqb (suc r) (suc m) e, lt-leb (suc r) m (omega arith)) (low 0 (omega arith)))
      (λ ne. rw (ne_eqb (suc r) (suc m) ne, le-leb (suc r) m (omega arith)) (low (suc r) (omega arith))))
    where
      low : (n : ℕ) → n < 128 → bit k (128 + n) ≡ bit k n
      low n b = over n b k (omega arith) ∙ ap (λ (t : Bool). bit k n || t) (ne_eqb k 7 (λ e. omega arith)) ∙ or-false (bit k n)

  -- and digit 7 where there is a row
  pub mark_top : (r : ℕ) → r ≤ suc m → bit 7 (mark (suc m) r) ≡ not (eqb r 0)
  mark_top zero h = bit_zero 7
  mark_top (suc r) h =
      rw (eqb-suc-zero r)
      (by_cases (ℕ_discrete (suc r) (suc m))
      (λ e. rw (eq-eqb (suc r) (suc m) e) (top 0 (omega arith)))
      (λ ne. rw (ne_eqb (suc r) (suc m) ne) (top (suc r) (omega arith))))
    where
      top : (n : ℕ) → n < 128 → bit 7 (128 + n) ≡ true
      top n b = over n b 7 (omega arith) ∙ or-true (bit 7 n)

  pub weight_small : (r : ℕ) → weight m r < 128
  weight_small r = by (leb r m) refl
    where
      by : (t : Bool) → leb r m ≡ t → cond t r 0 < 128
      by true e = omega (arith, leb-true r m e)
      by false e = omega arith

-- ---- the lane with a one in row r, or with none

module _ (m : ℕ) where
  -- the digits of a lane's sum, and its parity
  abbrev pub digits : Lane → ℕ → Bool
  digits f k = cond (eqb k 7) (odd (suc m) f) (bit k (sum m f))

  abbrev pub one : (r : ℕ) (x : Bool) → Lane
  one r x p = x && eqb p r

  -- a row that is there, or row 0
  abbrev pub RowOrNone : ℕ → Type 0
  RowOrNone r = (r ≡ 0) ⊎ ((1 ≤ r) × (r ≤ suc m))

  pub none_above : (r : ℕ) → RowOrNone r → r ≤ suc m
  none_above r h = ⊎_elim (λ e. omega arith) (λ b. b.1) h

  pub one_sum : (r : ℕ) (x : Bool) → RowOrNone r → sum m (one r x) ≡ pick x (weight m r)
  one_sum r false h = sum_empty m
  one_sum r true h =
      ⊎_elim
      (λ e. rw e (sum_same m (only 0) (λ p. false) (λ j l. eqb-suc-zero j) ∙ sum_empty m ∙ sym (ap (λ (t : Bool). cond t 0 0) (le-leb 0 m (omega arith)))))
      (λ b.
      ⊎_elim
      (λ e. rw e ((only_above m (suc m) (le_refl (suc m))).1 ∙ sym (ap (λ (t : Bool). cond t (suc m) 0) (lt-leb (suc m) m (le_refl (suc m))))))
      (λ l. (only_within m r b.0 (omega arith)).1 ∙ sym (ap (λ (t : Bool). cond t r 0) (le-leb r m (omega arith))))
      (eq-or-lt_of_le b.1))
      h

  pub one_count : (r : ℕ) (x : Bool) → RowOrNone r → count (suc m) (one r x) ≡ pick (x && not (eqb r 0)) 1
  one_count r false h = count_empty (suc m)
  one_count r true h =
      ⊎_elim
      (λ e. rw e (count_same (suc m) (only 0) (λ p. false) (λ j l. eqb-suc-zero j) ∙ count_empty (suc m)))
      (λ b. (only_within (suc m) r b.0 b.1).0 ∙ sym (ap (λ (t : Bool). pick (not t) 1) (ne_eqb r 0 (λ e. omega (arith, b)))))
      h

  pub one_odd : (r : ℕ) (x : Bool) → RowOrNone r → odd (suc m) (one r x) ≡ x && not (eqb r 0)
  one_odd r x h = ap (bit 0) (one_count r x h) ∙ single (x && not (eqb r 0))
    where
      single : (b : Bool) → bit 0 (pick b 1) ≡ b
      single true = bit_one
      single false = bit_zero 0

  -- ---- digits

  pub digits_diff : (f g : Lane) (k : ℕ) → digits (diff f g) k ≡ digits f k ⊕ digits g k
  digits_diff f g k = by (eqb k 7)
    where
      by : (t : Bool) → cond t (odd (suc m) (diff f g)) (bit k (sum m (diff f g)))
          ≡ cond t (odd (suc m) f) (bit k (sum m f)) ⊕ cond t (odd (suc m) g) (bit k (sum m g))
      by true = odd_diff (suc m) f g
      by false = ap (bit k) (sum_diff m f g) ∙ bit_of_xor k (sum m f) (sum m g)

  pub digits_same : (f g : Lane) → ((j : ℕ) → j < suc m → f (suc j) ≡ g (suc j)) → (k : ℕ) → digits f k ≡ digits g k
  digits_same f g h k =
      ap₂ (λ (t : Bool) (s : ℕ). cond (eqb k 7) t (bit k s)) (ap (bit 0) (count_same (suc m) f g h)) (sum_same m f g (λ j l. h j (omega arith)))

module _ (m : ℕ) (small : m < 128) where
  -- a row's digits are those of its mark
  pub one_digit : (r : ℕ) (x : Bool) → RowOrNone m r → (k : ℕ) → k < 8 → digits m (one m r x) k ≡ x && bit k (mark (suc m) r)
  one_digit r x h k l =
      ⊎_elim
      (λ e.
      rw (eq-eqb k 7 e)
      (one_odd m r x h
      ∙ ap (λ (t : Bool). x && t) (sym (mark_top m small r (none_above m r h)) ∙ ap (λ (j : ℕ). bit j (mark (suc m) r)) (sym e))))
      (λ b.
      rw (ne_eqb k 7 (λ e. omega arith))
      (ap (bit k) (one_sum m r x h) ∙ pick_bit k x (weight m r) ∙ ap (λ (t : Bool). x && t) (sym (mark_low m small r (none_above m r h) k b))))
      (eq-or-lt_of_le (le_of_suc-le-suc l))

  -- and a lane's, where the row is changed, are changed by it
  pub change_digit : (f : Lane) (r : ℕ) (x : Bool) → RowOrNone m r → (k : ℕ) → k < 8
      → digits m (diff f (one m r x)) k ≡ digits m f k ⊕ (x && bit k (mark (suc m) r))
  change_digit f r x h k l = digits_diff m f (one m r x) k ∙ ap (λ (t : Bool). digits m f k ⊕ t) (one_digit r x h k l)
