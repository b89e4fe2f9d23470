-- For each choice of the data rows there is exactly one valid lane. Assumes nothing.
use Prim.Native.Nat.{ℕ, zero, suc, ◌+◌, ◌^◌, ◌≤◌, ◌<◌}
use mathlib.Core.Bool.{Bool, true, false, ◌&&◌, true≢false, and-true, and-false}
use mathlib.Core.Path.{◌≡◌, refl, sym, ap, ap₂, ◌∙◌}
use mathlib.Core.Logic.{⊎_elim}
use native.Mathlib.Nat.{eq-or-lt_of_le, le_of_suc-le-suc, le_refl}
use native.Mathlib.Omega.{arith}
use lib.Bits.{bit_xor, xor_self, xor_lt}
use lib.Dec.{eqb}
use lib.Pow.{pow_pos, pow-lt}
use borrow.Author.Tests.{eq-eqb, ne_eqb}
use Rattle.lane.specs.Bit.{bit, ◌⊕◌, pick}
use Rattle.lane.specs.Lane.{Lane, sum, count, odd, diff, Valid}
use Rattle.lane.specs.Rows.{DataRow}
use Rattle.lane.specs.Encoded.{named, summed, encoded}
use Rattle.lane.proofs.Bits.{bit_of_xor, bit_zero, bit_one, bit_high, bit_ext_below, ⊕-zero}
use Rattle.lane.proofs.Linear.{sum_diff, odd_diff, odd_suc, sum_same, count_same, valid_diff}
use Rattle.lane.proofs.Distance.{⊕-same}
use Rattle.lane.proofs.Decided.{only_within}
use Rattle.lane.proofs.Mended.{⊕-self, sum_empty, count_empty}
use Rattle.lane.proofs.Rows.{either, split_below, power_digit, power_other, power_apart}

twice : (a b : Bool) → a ⊕ (b ⊕ (a ⊕ b)) ≡ false
twice true true = refl
twice true false = refl
twice false true = refl
twice false false = refl

pub pick_bit : (i : ℕ) (b : Bool) (w : ℕ) → bit i (pick b w) ≡ b && bit i w
pick_bit i true w = refl
pick_bit i false w = bit_zero i

pick_lt : (b : Bool) (w k : ℕ) → w < 2 ^ k → pick b w < 2 ^ k
pick_lt true w k h = h
pick_lt false w k h = pow_pos k

-- rows that number below 2^k have a sum below 2^k
pub sum_lt : (k m : ℕ) (f : Lane) → m < 2 ^ k → sum m f < 2 ^ k
unfolding sum
sum_lt k zero f h = h
sum_lt k (suc m) f h = xor_lt k (sum m f) (pick (f (suc m)) (suc m)) (sum_lt k m f (omega arith)) (pick_lt (f (suc m)) (suc m) k h)

-- ---- at most one: a valid lane with no one in its data rows is empty

module _ (m : ℕ) (d : Lane) (quiet : (p : ℕ) → DataRow m p → d p ≡ false) where
  other : (k n : ℕ) → n < m → (suc n ≡ 2 ^ k → ⊥) → d (suc n) && bit k (suc n) ≡ false
  other k n h ne =
      ⊎_elim
      (λ t.
      ap (λ (x : Bool). x && bit k (suc n))
      (quiet (suc n) (record {
        first = omega arith;
        last = h;
        no_power = λ l e. ne (e ∙ ap (λ (x : ℕ). 2 ^ x) (sym (power_other k l (sym (ap (bit k) e) ∙ t))));
      })))
      (λ t. ap (λ (x : Bool). d (suc n) && x) t ∙ and-false (d (suc n)))
      (either (bit k (suc n)))

  at_check : (k r n : ℕ) → r ≡ 2 ^ k → r ≤ n → n ≤ m → bit k (sum n d) ≡ d r
  unfolding sum
  at_check k r zero e h l = let p = pow_pos k in absurd (omega arith)
  at_check k r (suc n) e h l =
      bit_of_xor k (sum n d) (pick (d (suc n)) (suc n)) ∙ ap (λ (x : Bool). bit k (sum n d) ⊕ x) (pick_bit k (d (suc n)) (suc n))
      ∙ ⊎_elim
      (λ q.
      ap₂ ◌⊕◌ (bit_high k k (sum n d) (sum_lt k n d (omega arith)) (le_refl k))
      (ap (λ (x : Bool). d (suc n) && x) (ap (bit k) (sym q ∙ e) ∙ power_digit k) ∙ and-true (d (suc n)))
      ∙ ap d (sym q))
      (λ q. ap₂ ◌⊕◌ (at_check k r n e (omega arith) (omega arith)) (other k n l (λ s. omega arith)) ∙ ⊕-zero (d r))
      (eq-or-lt_of_le h)

  silent : sum m d ≡ 0 → (j : ℕ) → j < m → d (suc j) ≡ false
  silent z j h =
      ⊎_elim
      (λ t.
      quiet (suc j)
      (record { first = omega arith; last = h; no_power = λ k e. true≢false (sym t ∙ sym (at_check k (suc j) m e h (le_refl m)) ∙ ap (bit k) z ∙ bit_zero k) }))
      (λ t. t)
      (either (d (suc j)))

count_none : (n : ℕ) (f : Lane) → ((j : ℕ) → j < n → f (suc j) ≡ false) → count n f ≡ 0
unfolding count
count_none zero f h = refl
count_none (suc n) f h = ap₂ (λ (c : ℕ) (b : Bool). c + pick b 1) (count_none n f (λ j l. h j (omega arith))) (h n (le_refl (suc n)))

quiet_valid : (m : ℕ) (d : Lane) → ((p : ℕ) → DataRow m p → d p ≡ false) → Valid m d → (j : ℕ) → j < suc m → d (suc j) ≡ false
quiet_valid m d q v j h =
    ⊎_elim
    (λ e.
    ap (λ (x : ℕ). d (suc x)) e
    ∙ sym
    (odd_suc m d ∙ ap (λ (c : ℕ). bit 0 c ⊕ d (suc m)) (count_none m d (silent m d q v.sum_zero)) ∙ ap (λ (b : Bool). b ⊕ d (suc m)) (bit_zero 0))
    ∙ v.even)
    (λ l. silent m d q v.sum_zero j l)
    (eq-or-lt_of_le (le_of_suc-le-suc h))

pub at_most_one : (m : ℕ) (f g : Lane) → Valid m f → Valid m g → ((p : ℕ) → DataRow m p → f p ≡ g p) → (j : ℕ) → j < suc m → f (suc j) ≡ g (suc j)
at_most_one m f g u v s j h =
    ⊕-same (f (suc j)) (g (suc j))
    (quiet_valid m (diff f g) (λ p r. ap (λ (b : Bool). b ⊕ g p) (s p r) ∙ ⊕-self (g p)) (valid_diff u v) j h)

-- ---- at least one: the encoded lane

-- the lane with a one in row 2^k, where b says so
single : (m k : ℕ) (b : Bool) → (b ≡ true → 2 ^ k ≤ m) → sum m (λ p. b && eqb p (2 ^ k)) ≡ pick b (2 ^ k)
single m k true fit = (only_within m (2 ^ k) (pow_pos k) (fit refl)).1
single m k false fit = sum_empty m

-- the check rows that a sum names sum to its digits below k, and to none from k on
module _ (m s : ℕ) (fit : (l : ℕ) → bit l s ≡ true → 2 ^ l ≤ m) where
  one_more : (k i : ℕ) → bit i (sum m (named (suc k) s)) ≡ bit i (sum m (named k s)) ⊕ (bit k s && bit i (2 ^ k))
  unfolding named
  one_more k i =
      ap (bit i) (sum_diff m (named k s) (λ p. bit k s && eqb p (2 ^ k)) ∙ ap (bit_xor (sum m (named k s))) (single m k (bit k s) (fit k)))
      ∙ bit_of_xor i (sum m (named k s)) (pick (bit k s) (2 ^ k)) ∙ ap (λ (b : Bool). bit i (sum m (named k s)) ⊕ b) (pick_bit i (bit k s) (2 ^ k))

  not_power : (k i : ℕ) → (i ≡ k → ⊥) → (b : Bool) → b && bit i (2 ^ k) ≡ false
  not_power k i ne b =
      ap (λ (x : Bool). b && x) (power_apart i k ne) ∙ and-false b

  high : (k i : ℕ) → k ≤ i → bit i (sum m (named k s)) ≡ false
  unfolding named
  high zero i h = ap (bit i) (sum_empty m) ∙ bit_zero i
  high (suc k) i h = one_more k i ∙ ap₂ ◌⊕◌ (high k i (omega arith)) (not_power k i (λ e. omega arith) (bit k s))

  low : (k i : ℕ) → i < k → bit i (sum m (named k s)) ≡ bit i s
  low zero i h = absurd (omega arith)
  low (suc k) i h =
      one_more k i
      ∙ ⊎_elim
      (λ e. rw e (ap₂ ◌⊕◌ (high k k (le_refl k)) (ap (λ (x : Bool). bit k s && x) (power_digit k) ∙ and-true (bit k s))))
      (λ l. ap₂ ◌⊕◌ (low k i l) (not_power k i (λ e. omega arith) (bit k s)) ∙ ⊕-zero (bit i s))
      (eq-or-lt_of_le (le_of_suc-le-suc h))

-- no check row is a data row
named_data : (m k s p : ℕ) → DataRow m p → named k s p ≡ false
unfolding named
named_data m zero s p d = refl
named_data m (suc k) s p d =
    ap₂ ◌⊕◌ (named_data m k s p d) (ap (λ (x : Bool). bit k s && x) (ne_eqb p (2 ^ k) (d.no_power k)) ∙ and-false (bit k s))

module _ (k m : ℕ) (f : Lane) (hm : m < 2 ^ k) where
  -- a digit of the sum names a row that is there
  inside : (l : ℕ) → bit l (sum m f) ≡ true → 2 ^ l ≤ m
  inside l e =
      ⊎_elim (λ h. absurd (true≢false (sym e ∙ bit_high l l (sum m f) (sum_lt l m f h) (le_refl l)))) (λ h. h) (split_below m (2 ^ l))

  summed_sum : sum m (summed k m f) ≡ 0
  summed_sum =
      sum_diff m f (named k (sum m f))
      ∙ ap (bit_xor (sum m f))
      (bit_ext_below k (sum m (named k (sum m f))) (sum m f) (sum_lt k m (named k (sum m f)) hm) (sum_lt k m f hm) (low m (sum m f) inside k))
      ∙ xor_self (sum m f)

  -- the rows before the last are as summed, and the last is changed where the parity is odd
  before_last : (p : ℕ) → p ≤ m → encoded k m f p ≡ summed k m f p
  before_last p h = rw (ne_eqb p (suc m) (λ e. omega arith), and-false, ⊕-zero)

  last_row : encoded k m f (suc m) ≡ summed k m f (suc m) ⊕ odd (suc m) (summed k m f)
  last_row = rw (eq-eqb (suc m) (suc m) refl, and-true)

  pub encoded_valid : Valid m (encoded k m f)
  encoded_valid =
      record {
        sum_zero = sum_same m (encoded k m f) (summed k m f) (λ j l. before_last (suc j) l) ∙ summed_sum;
        even = odd_suc m (encoded k m f)
            ∙ ap₂ ◌⊕◌ (ap (bit 0) (count_same m (encoded k m f) (summed k m f) (λ j l. before_last (suc j) l)))
            (last_row ∙ ap (λ (b : Bool). summed k m f (suc m) ⊕ b) (odd_suc m (summed k m f)))
            ∙ twice (odd m (summed k m f)) (summed k m f (suc m));
      }

  -- the data rows are as they were
  pub encoded_data : (p : ℕ) → DataRow m p → encoded k m f p ≡ f p
  encoded_data p d = before_last p d.last ∙ ap (λ (b : Bool). f p ⊕ b) (named_data m k (sum m f) p d) ∙ ⊕-zero (f p)

  -- and it is the only valid lane with them
  pub encoded_only : (g : Lane) → Valid m g → ((p : ℕ) → DataRow m p → g p ≡ f p) → (j : ℕ) → j < suc m → g (suc j) ≡ encoded k m f (suc j)
  encoded_only g v s = at_most_one m g (encoded k m f) v encoded_valid (λ p d. s p d ∙ sym (encoded_data p d))

-- ---- the check rows that a sum names, one by one

pub named_off : (k s p : ℕ) → ((l : ℕ) → l < k → p ≡ 2 ^ l → ⊥) → named k s p ≡ false
unfolding named
named_off zero s p ne = refl
named_off (suc k) s p ne =
    ap₂ ◌⊕◌ (named_off k s p (λ l h. ne l (omega arith)))
    (ap (λ (x : Bool). bit k s && x) (ne_eqb p (2 ^ k) (ne k (omega arith))) ∙ and-false (bit k s))

pub named_on : (k s l : ℕ) → l < k → named k s (2 ^ l) ≡ bit l s
unfolding named
named_on zero s l h = absurd (omega arith)
named_on (suc k) s l h =
    ⊎_elim
    (λ e.
    rw e
    (ap₂ ◌⊕◌ (named_off k s (2 ^ k) (λ i b q. let g : 2 ^ i < 2 ^ k = pow-lt b in omega arith))
    (ap (λ (x : Bool). bit k s && x) (eq-eqb (2 ^ k) (2 ^ k) refl) ∙ and-true (bit k s))))
    (λ b.
    ap₂ ◌⊕◌ (named_on k s l b)
    (ap (λ (x : Bool). bit k s && x) (ne_eqb (2 ^ l) (2 ^ k) (λ q. let g : 2 ^ l < 2 ^ k = pow-lt b in omega arith)) ∙ and-false (bit k s))
    ∙ ⊕-zero (bit l s))
    (eq-or-lt_of_le (le_of_suc-le-suc h))

-- the exclusive or of the k low digits of a sum
unfoldable pub xor_digits : ℕ → ℕ → Bool
xor_digits zero s = false
xor_digits (suc k) s = xor_digits k s ⊕ bit k s

single_odd : (n k : ℕ) (b : Bool) → (b ≡ true → 2 ^ k ≤ n) → odd n (λ p. b && eqb p (2 ^ k)) ≡ b
single_odd n k true fit = ap (bit 0) (only_within n (2 ^ k) (pow_pos k) (fit refl)).0 ∙ bit_one
single_odd n k false fit = ap (bit 0) (count_empty n) ∙ bit_zero 0

pub named_odd : (n k s : ℕ) → ((l : ℕ) → bit l s ≡ true → 2 ^ l ≤ n) → odd n (named k s) ≡ xor_digits k s
unfolding named xor_digits
named_odd n zero s fit = ap (bit 0) (count_empty n) ∙ bit_zero 0
named_odd n (suc k) s fit =
    odd_diff n (named k s) (λ p. bit k s && eqb p (2 ^ k)) ∙ ap₂ ◌⊕◌ (named_odd n k s fit) (single_odd n k (bit k s) (fit k))

-- so the last row of an encoded lane is the exclusive or of the data's parity and the digits of its sum
pub summed_odd : (k m : ℕ) (f : Lane) → m < 2 ^ k → odd (suc m) (summed k m f) ≡ odd (suc m) f ⊕ xor_digits k (sum m f)
summed_odd k m f hm =
    odd_diff (suc m) f (named k (sum m f))
    ∙ ap (λ (b : Bool). odd (suc m) f ⊕ b) (named_odd (suc m) k (sum m f) (λ l e. let h = inside k m f hm l e in omega arith))
