-- The bits of an exclusive or, and its laws. Assumes nothing.
use Prim.Native.Nat.{ℕ, zero, suc, ◌+◌, ◌/◌, ◌%◌, ◌^◌, ◌-◌, ◌≤◌, ◌<◌}
use mathlib.Core.Bool.{Bool, true, false, not, ◌&&◌, ◌||◌}
use mathlib.Core.Path.{◌≡◌, refl, sym, ap, ◌∙◌}
use native.Mathlib.Nat.{div-one, add-zero, pow-suc, mod-lt, zero-lt-suc}
use native.Mathlib.Omega.{arith}
use lib.Arith.{bin_ind}
use lib.Pow.{shr-shr}
use native.Mathlib.Numerals.{one-add}
use lib.Bits.{bit_xor, bit_and, bit_or, xor_shr, xor_mod, and_shr, and_mod, or_shr, or_mod, xor_self, xor_zero_r}
use Rattle.lane.specs.Bit.{set?, bit, ◌⊕◌, pick}

pub ⊕-zero : (b : Bool) → b ⊕ false ≡ b
⊕-zero false = refl
⊕-zero true = refl

pub ⊕-one : (b : Bool) → b ⊕ true ≡ not b
⊕-one false = refl
⊕-one true = refl

-- a bit counts as one at most
pub pick_one : (b : Bool) → pick b 1 ≤ 1
pick_one true = omega arith
pick_one false = omega arith

module _ (op : ℕ → ℕ → ℕ) (g : Bool → Bool → Bool)
    (shr : (a b k : ℕ) → op a b / 2 ^ k ≡ op (a / 2 ^ k) (b / 2 ^ k))
    (low : (a b k : ℕ) → op a b % 2 ^ k ≡ op (a % 2 ^ k) (b % 2 ^ k))
    (digit : (x y : ℕ) → x < 2 → y < 2 → set? (op x y) ≡ g (set? x) (set? y)) where
  bit_op : (i a b : ℕ) → bit i (op a b) ≡ g (bit i a) (bit i b)
  unfolding bit
  bit_op zero a b = ap set? (low a b 1) ∙ digit (a % 2) (b % 2) (mod-lt a (zero-lt-suc 1)) (mod-lt b (zero-lt-suc 1))
  bit_op (suc i) a b = ap (bit i) (shr a b 1) ∙ bit_op i (a / 2) (b / 2)

digits : (op : ℕ → ℕ → ℕ) (g : Bool → Bool → Bool)
    → set? (op 0 0) ≡ g false false → set? (op 0 1) ≡ g false true → set? (op 1 0) ≡ g true false → set? (op 1 1) ≡ g true true
    → (x y : ℕ) → x < 2 → y < 2 → set? (op x y) ≡ g (set? x) (set? y)
digits op g p q r s zero zero h k = p
digits op g p q r s zero (suc zero) h k = q
digits op g p q r s zero (suc (suc y)) h k = absurd (omega arith)
digits op g p q r s (suc zero) zero h k = r
digits op g p q r s (suc zero) (suc zero) h k = s
digits op g p q r s (suc zero) (suc (suc y)) h k = absurd (omega arith)
digits op g p q r s (suc (suc x)) y h k = absurd (omega arith)

pub bit_of_xor : (i a b : ℕ) → bit i (bit_xor a b) ≡ bit i a ⊕ bit i b
bit_of_xor = bit_op bit_xor ◌⊕◌ xor_shr xor_mod (digits bit_xor ◌⊕◌ refl refl refl refl)

pub bit_of_and : (i a b : ℕ) → bit i (bit_and a b) ≡ bit i a && bit i b
bit_of_and = bit_op bit_and ◌&&◌ and_shr and_mod (digits bit_and ◌&&◌ refl refl refl refl)

pub bit_of_or : (i a b : ℕ) → bit i (bit_or a b) ≡ bit i a || bit i b
bit_of_or = bit_op bit_or ◌||◌ or_shr or_mod (digits bit_or ◌||◌ refl refl refl refl)

-- two numbers are equal where their bits are
same_digit : (x y : ℕ) → x < 2 → y < 2 → set? x ≡ set? y → x ≡ y
same_digit zero zero h k e = refl
same_digit zero (suc y) h k e = let z : ◌≡◌ {A = ℕ} 0 1 = cc in absurd (omega arith)
same_digit (suc x) zero h k e = let z : ◌≡◌ {A = ℕ} 0 1 = cc in absurd (omega arith)
same_digit (suc x) (suc y) h k e = omega arith

halves : (a b : ℕ) → a / 2 ≡ b / 2 → set? (a % 2) ≡ set? (b % 2) → a ≡ b
halves a b e d =
    let r : a % 2 ≡ b % 2 = same_digit (a % 2) (b % 2) (omega arith) (omega arith) d in
    omega arith

pub bit_zero : (i : ℕ) → bit i 0 ≡ false
unfolding bit
bit_zero zero = refl
bit_zero (suc i) = bit_zero i

pub bit_one : bit 0 1 ≡ true
unfolding bit
bit_one = refl

pub bit_ext : (a b : ℕ) → ((i : ℕ) → bit i a ≡ bit i b) → a ≡ b
unfolding bit
bit_ext =
    bin_ind (λ (a : ℕ). (b : ℕ) → ((i : ℕ) → bit i a ≡ bit i b) → a ≡ b)
    (bin_ind (λ (b : ℕ). ((i : ℕ) → bit i 0 ≡ bit i b) → 0 ≡ b) (λ h. refl) (λ b ih h. halves 0 b (ih (λ i. h (suc i))) (h 0)))
    (λ a ih b h. halves a b (ih (b / 2) (λ i. h (suc i))) (h 0))

-- the same of two numbers of k bits, from those bits
pub bit_ext_below : (k a b : ℕ) → a < 2 ^ k → b < 2 ^ k → ((i : ℕ) → i < k → bit i a ≡ bit i b) → a ≡ b
unfolding bit
bit_ext_below zero a b p q h = omega arith
bit_ext_below (suc k) a b p q h =
    let e = pow-suc 2 k in
    halves a b (bit_ext_below k (a / 2) (b / 2) (omega arith) (omega arith) (λ i l. h (suc i) (omega arith))) (h 0 (omega arith))

-- a number of k bits has none above them
pub bit_high : (k i w : ℕ) → w < 2 ^ k → k ≤ i → bit i w ≡ false
unfolding bit
bit_high zero i w h l = let e : w ≡ 0 = omega arith in ap (bit i) e ∙ bit_zero i
bit_high (suc k) zero w h l = absurd (omega arith)
bit_high (suc k) (suc i) w h l = let e = pow-suc 2 k in bit_high k i (w / 2) (omega arith) (omega arith)

-- bit i by a shift and a mask
pub bit_shift : (i w : ℕ) → bit i w ≡ set? (w / 2 ^ i % 2)
unfolding bit
bit_shift zero w = ap (λ (x : ℕ). set? (x % 2)) (sym (div-one w))
bit_shift (suc i) w = bit_shift i (w / 2) ∙ ap (λ (x : ℕ). set? (x % 2)) (shr-shr w 1 i ∙ ap (λ (x : ℕ). w / 2 ^ x) (one-add i))

-- a digit and its complement
flip_digit : (x y : ℕ) → x + y ≡ 1 → set? y ≡ not (set? x)
flip_digit zero y e = let h : y ≡ 1 = omega arith in ap set? h
flip_digit (suc x) zero e = refl
flip_digit (suc x) (suc y) e = absurd (omega arith)

-- one more: the parity changes
pub bit_add : (c : ℕ) (b : Bool) → bit 0 (c + pick b 1) ≡ bit 0 c ⊕ b
unfolding bit
bit_add c false = ap (bit 0) (add-zero c) ∙ sym (⊕-zero (bit 0 c))
bit_add c true = flip_digit (c % 2) ((c + 1) % 2) (omega arith) ∙ sym (⊕-one (bit 0 c))

-- the complement of a number of k digits
pub bit_not : (k i w : ℕ) → i < k → w < 2 ^ k → bit i ((2 ^ k - 1) - w) ≡ not (bit i w)
unfolding bit
bit_not zero i w h l = absurd (omega arith)
bit_not (suc k) zero w h l =
    let p = pow-suc 2 k in
    flip_digit (w % 2) (((2 ^ suc k - 1) - w) % 2) (omega arith)
bit_not (suc k) (suc i) w h l =
    let p = pow-suc 2 k in
    let e : ((2 ^ suc k - 1) - w) / 2 ≡ (2 ^ k - 1) - w / 2 = omega arith in
    ap (bit i) e ∙ bit_not k i (w / 2) (omega arith) (omega arith)

pub ⊕-swap : (a b c d : Bool) → (a ⊕ b) ⊕ (c ⊕ d) ≡ (a ⊕ c) ⊕ (b ⊕ d)
⊕-swap false false c d = refl
⊕-swap false true false d = refl
⊕-swap false true true false = refl
⊕-swap false true true true = refl
⊕-swap true false false d = refl
⊕-swap true false true false = refl
⊕-swap true false true true = refl
⊕-swap true true false false = refl
⊕-swap true true false true = refl
⊕-swap true true true d = refl

pub xor_swap : (a b c d : ℕ) → bit_xor (bit_xor a b) (bit_xor c d) ≡ bit_xor (bit_xor a c) (bit_xor b d)
xor_swap a b c d = bit_ext _ _ (λ i. simp bit_of_xor (⊕-swap (bit i a) (bit i b) (bit i c) (bit i d)))

pub xor_assoc : (a b c : ℕ) → bit_xor (bit_xor a b) c ≡ bit_xor a (bit_xor b c)
xor_assoc a b c = xor_swap a b 0 c ∙ ap (λ (x : ℕ). bit_xor x (bit_xor b c)) (xor_zero_r a)

pub xor_cancel : (a b : ℕ) → bit_xor a b ≡ 0 → a ≡ b
xor_cancel a b e = sym (xor_zero_r a) ∙ ap (bit_xor a) (sym (xor_self b)) ∙ sym (xor_assoc a b b) ∙ ap (λ (x : ℕ). bit_xor x b) e
