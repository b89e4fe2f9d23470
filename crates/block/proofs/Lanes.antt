-- The words that the code computes say of each lane what the definitions say. Assumes nothing.
use Prim.Native.Nat.{ℕ, zero, suc, ◌+◌, ◌*◌, ◌/◌, ◌%◌, ◌^◌, ◌<◌}
use mathlib.Core.Bool.{Bool, true, false, not, cond, ◌&&◌, ◌||◌}
use mathlib.Core.Path.{◌≡◌, refl, sym, ap, ap₂, ◌∙◌}
use mathlib.Core.List.{List}
use native.Mathlib.Nat.{mod-lt, pow-suc}
use native.Mathlib.Omega.{arith}
use lib.Bits.{bit_and, bit_or}
use lib.Count.{ones, ones_in, ones_step}
use lib.Dec.{eqb, ltb, leb, eqb-suc-zero}
use lib.ListN.{get_or}
use lib.Pow.{pow_pos, mod-pow-add}
use borrow.Author.Tests.{lt-ltb, le-ltb, ltb-true, ltb-false}
use Rattle.lane.specs.Bit.{set?, bit, pick}
use Rattle.lane.specs.Decision.{Kind, even, beyond, flipped, lost, decision, lost_as?}
use Rattle.lane.proofs.Bits.{bit_zero, bit_of_and, bit_of_or, bit_shift}
use Rattle.ground.specs.Totals.{total}
use Rattle.sums.specs.Words.{number}
use Rattle.block.specs.Inner.{above_of}
use Rattle.sums.proofs.WordBits.{number_lt}

-- ---- the lanes with a sum above a number

module _ (i : ℕ) (digits : List ℕ) where
  abbrev low : ℕ → ℕ
  low k = number k (λ j. bit i (get_or digits j 0))

  -- comparing numbers of one digit more
  compare_more : (w x y : ℕ) (a b : Bool) → x < w → y < w → cond a (ltb x y && b) (ltb x y || b) ≡ ltb (x + pick a w) (y + pick b w)
  compare_more w x y a b hx hy = go a b (ltb x y) refl
    where
      go : (a b t : Bool) → ltb x y ≡ t → cond a (t && b) (t || b) ≡ ltb (x + pick a w) (y + pick b w)
      go true true true e = let h = ltb-true x y e in sym (lt-ltb (x + w) (y + w) (omega arith))
      go true true false e = let h = ltb-false x y e in sym (le-ltb (x + w) (y + w) (omega arith))
      go true false true e = sym (le-ltb (x + w) (y + 0) (omega arith))
      go true false false e = sym (le-ltb (x + w) (y + 0) (omega arith))
      go false true true e = sym (lt-ltb (x + 0) (y + w) (omega arith))
      go false true false e = sym (lt-ltb (x + 0) (y + w) (omega arith))
      go false false true e = let h = ltb-true x y e in sym (lt-ltb (x + 0) (y + 0) (omega arith))
      go false false false e = let h = ltb-false x y e in sym (le-ltb (x + 0) (y + 0) (omega arith))

  digit_pick : (d w : ℕ) → d < 2 → d * w ≡ pick (set? d) w
  digit_pick zero w h = omega (arith, native.Mathlib.Nat.zero-mul w)
  digit_pick (suc zero) w h = omega (arith, native.Mathlib.Nat.one-mul w)
  digit_pick (suc (suc d)) w h = absurd (omega arith)

  mod_more : (n k : ℕ) → n % 2 ^ suc k ≡ n % 2 ^ k + pick (bit k n) (2 ^ k)
  mod_more n k =
      let e : suc k ≡ 1 + k = omega arith in
      ap (λ (j : ℕ). n % 2 ^ j) e ∙ mod-pow-add n 1 k
      ∙ omega (arith, digit_pick (n / 2 ^ k % 2) (2 ^ k) (omega arith), ap (λ (b : Bool). pick b (2 ^ k)) (bit_shift k n))

  cond_bit : (b : Bool) (x y : ℕ) → bit i (cond b x y) ≡ cond b (bit i x) (bit i y)
  cond_bit true x y = refl
  cond_bit false x y = refl

  pub bit_above : (top k : ℕ) → bit i (above_of top k digits) ≡ ltb (top % 2 ^ k) (low k)
  unfolding above_of number
  bit_above top zero = bit_zero i ∙ sym (le-ltb (top % 1) 0 (omega arith))
  bit_above top (suc k) =
      cond_bit (bit k top) (bit_and (above_of top k digits) (get_or digits k 0)) (bit_or (above_of top k digits) (get_or digits k 0))
      ∙ ap₂ (λ (x y : Bool). cond (bit k top) x y)
      (bit_of_and i (above_of top k digits) (get_or digits k 0) ∙ ap (λ (b : Bool). b && bit i (get_or digits k 0)) (bit_above top k))
      (bit_of_or i (above_of top k digits) (get_or digits k 0) ∙ ap (λ (b : Bool). b || bit i (get_or digits k 0)) (bit_above top k))
      ∙ compare_more (2 ^ k) (top % 2 ^ k) (low k) (bit k top) (bit i (get_or digits k 0)) (mod-lt top (pow_pos k)) (number_lt k _)
      ∙ ap (λ (x : ℕ). ltb x (low k + pick (bit i (get_or digits k 0)) (2 ^ k))) (sym (mod_more top k))

-- above 15 are the numbers with a digit from 4 on, above 71 those from 64 on with one more from digit 3 on
pub above_one : (digits : List ℕ) → above_of 15 7 digits ≡ bit_or (bit_or (get_or digits 4 0) (get_or digits 5 0)) (get_or digits 6 0)
unfolding above_of bit
above_one digits = refl

pub above_two : (digits : List ℕ)
    → above_of 71 7 digits ≡ bit_and (bit_or (bit_or (get_or digits 3 0) (get_or digits 4 0)) (get_or digits 5 0)) (get_or digits 6 0)
unfolding above_of bit
above_two digits = refl

-- ---- the lanes that are lost as a kind: even with a sum, or odd with a sum above the rows before the last

abbrev pub lost_test : Kind → ℕ → Bool → ℕ → Bool
lost_test even m o s = not (eqb s 0) && not o
lost_test beyond m o s = o && ltb m s

pub lost_test_lem : (kind : Kind) (m : ℕ) (o : Bool) (s : ℕ) → lost_test kind m o s ≡ lost_as? kind (decision m o s)
unfolding decision
lost_test_lem even m false zero = refl
lost_test_lem even m false (suc s) = rw (eqb-suc-zero s)
lost_test_lem even m true zero = refl
lost_test_lem even m true (suc s) = rw (eqb-suc-zero s) (go (leb (suc s) m))
  where
    go : (t : Bool) → false ≡ lost_as? even (cond t (flipped (suc s)) (lost beyond))
    go true = refl
    go false = refl
lost_test_lem beyond m false zero = refl
lost_test_lem beyond m false (suc s) = refl
lost_test_lem beyond m true zero = le-ltb m 0 (omega arith)
lost_test_lem beyond m true (suc s) = go (leb (suc s) m) refl
  where
    go : (t : Bool) → leb (suc s) m ≡ t → ltb m (suc s) ≡ lost_as? beyond (cond t (flipped (suc s)) (lost beyond))
    go true e = let h = borrow.Author.Tests.leb-true (suc s) m e in le-ltb m (suc s) h
    go false e = let h = borrow.Author.Tests.leb-false (suc s) m e in lt-ltb m (suc s) h

-- ---- the count of a word's ones is that of its bits

total_first : (n : ℕ) (f : ℕ → ℕ) → total (suc n) f ≡ f 0 + total n (λ i. f (suc i))
unfolding total
total_first zero f = omega arith
total_first (suc n) f = let h = total_first n f in omega arith

ones_digit : (d : ℕ) → d < 2 → d ≡ pick (set? d) 1
ones_digit zero h = refl
ones_digit (suc zero) h = refl
ones_digit (suc (suc d)) h = absurd (omega arith)

pub ones_total : (k w : ℕ) → w < 2 ^ k → ones w ≡ total k (λ i. pick (bit i w) 1)
unfolding ones ones_in total bit
ones_total zero w h = let e : w ≡ 0 = omega arith in ap ones e
ones_total (suc k) w h =
    let e = pow-suc 2 k in
    ones_step w ∙ ap₂ (λ (x y : ℕ). x + y) (ones_digit (w % 2) (omega arith)) (ones_total k (w / 2) (omega arith))
    ∙ sym (total_first k (λ i. pick (bit i w) 1))
