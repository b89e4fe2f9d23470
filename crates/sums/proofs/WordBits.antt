-- Rows by their places, and numbers by their bits. Assumes nothing.
use Prim.Native.Nat.{ℕ, zero, suc, ◌+◌, ◌-◌, ◌/◌, ◌%◌, ◌^◌, ◌≤◌, ◌<◌}
use mathlib.Core.Bool.{Bool, true, false, and-true, and-false}
use mathlib.Core.Path.{◌≡◌, sym, ap, ◌∙◌}
use mathlib.Core.List.{List}
use mathlib.Core.Logic.{⊎_elim}
use native.Mathlib.Nat.{pow-suc, eq-or-lt_of_le, le_of_suc-le-suc, le_refl, add-zero, one-mul}
use native.Mathlib.Omega.{arith}
use lib.Bits.{bit_and, bit_xor, xor_zero_r, xor_disjoint, and_comm, and_shifted}
use lib.ListN.{get_or}
use Rattle.lane.specs.Bit.{set?, bit, pick}
use Rattle.lane.proofs.Bits.{bit_of_xor, bit_high, bit_shift, bit_ext_below, ⊕-zero}
use Rattle.lane.proofs.Exactly.{pick_bit}
use Rattle.lane.proofs.Rows.{power_digit, power_apart}
use Rattle.sums.specs.Words.{row, number}

-- where the word of a row stands
pub row_at : (p : ℕ) (block : List ℕ) → 1 ≤ p → get_or block (p - 1) 0 ≡ row p block
row_at zero block h = absurd (omega arith)
row_at (suc j) block h = let e : suc j - 1 ≡ j = omega arith in ap (λ (k : ℕ). get_or block k 0) e

-- ---- the bits of a number that is given by its bits

number_more : (n k : ℕ) → n < 2 ^ k → (b : Bool) → n + pick b (2 ^ k) < 2 ^ suc k
number_more n k h true = let e = pow-suc 2 k in omega arith
number_more n k h false = let e = pow-suc 2 k in omega arith

pub number_lt : (n : ℕ) (f : ℕ → Bool) → number n f < 2 ^ n
unfolding number
number_lt zero f = omega arith
number_lt (suc n) f = number_more (number n f) n (number_lt n f) (f n)

-- a digit on top of a number below it
top_digit : (n k : ℕ) → n < 2 ^ k → (b : Bool) → n + pick b (2 ^ k) ≡ bit_xor n (pick b (2 ^ k))
top_digit n k h true = sym (xor_disjoint n (2 ^ k) (and_comm n (2 ^ k) ∙ ap (λ (x : ℕ). bit_and x n) (sym (one-mul (2 ^ k))) ∙ and_shifted 1 k n h))
top_digit n k h false = add-zero n ∙ sym (xor_zero_r n)

pub bit_number : (n i : ℕ) (f : ℕ → Bool) → i < n → bit i (number n f) ≡ f i
unfolding number
bit_number zero i f h = absurd (omega arith)
bit_number (suc n) i f h =
    rw (top_digit (number n f) n (number_lt n f) (f n), bit_of_xor i, pick_bit i)
    (⊎_elim
    (λ e. rw e (rw (bit_high n n (number n f) (number_lt n f) (le_refl n), power_digit n, and-true)))
    (λ l. rw (power_apart i n (λ e. omega arith), and-false, ⊕-zero, bit_number n i f l))
    (eq-or-lt_of_le (le_of_suc-le-suc h)))

pub number_bits : (n w : ℕ) (f : ℕ → Bool) → w < 2 ^ n → ((i : ℕ) → i < n → bit i w ≡ f i) → w ≡ number n f
number_bits n w f h e = bit_ext_below n w (number n f) h (number_lt n f) (λ i l. e i l ∙ sym (bit_number n i f l))

pub number_same : (n : ℕ) (f g : ℕ → Bool) → ((i : ℕ) → i < n → f i ≡ g i) → number n f ≡ number n g
number_same n f g e = number_bits n (number n f) g (number_lt n f) (λ i l. bit_number n i f l ∙ e i l)

-- ---- a digit by a test

pub digit_one : (i w : ℕ) → w / 2 ^ i % 2 ≡ 1 → bit i w ≡ true
digit_one i w e = bit_shift i w ∙ ap set? e

pub digit_zero : (i w : ℕ) → (w / 2 ^ i % 2 ≡ 1 → ⊥) → bit i w ≡ false
digit_zero i w ne = let z : w / 2 ^ i % 2 ≡ 0 = omega arith in bit_shift i w ∙ ap set? z
