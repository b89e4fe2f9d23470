-- The sum and the parity are linear: of a difference they are the differences. Assumes nothing.
use Prim.Native.Nat.{ℕ, zero, suc, ◌+◌, ◌<◌}
use mathlib.Core.Bool.{Bool, true, false}
use mathlib.Core.Path.{◌≡◌, refl, sym, ap, ap₂, ◌∙◌}
use native.Mathlib.Nat.{le_refl}
use native.Mathlib.Omega.{arith}
use lib.Bits.{bit_xor, xor_self, xor_zero_r}
use Rattle.lane.specs.Bit.{bit, ◌⊕◌, pick}
use Rattle.lane.specs.Lane.{Lane, sum, count, odd, Valid, diff}
use Rattle.lane.proofs.Bits.{xor_swap, bit_add, ⊕-swap}

pub pick_xor : (a b : Bool) (n : ℕ) → pick (a ⊕ b) n ≡ bit_xor (pick a n) (pick b n)
pick_xor false b n = refl
pick_xor true false n = sym (xor_zero_r n)
pick_xor true true n = sym (xor_self n)

pub sum_diff : (m : ℕ) (f g : Lane) → sum m (diff f g) ≡ bit_xor (sum m f) (sum m g)
unfolding sum
sum_diff zero f g = refl
sum_diff (suc m) f g =
    ap₂ bit_xor (sum_diff m f g) (pick_xor (f (suc m)) (g (suc m)) (suc m))
    ∙ xor_swap (sum m f) (sum m g) (pick (f (suc m)) (suc m)) (pick (g (suc m)) (suc m))

pub odd_suc : (n : ℕ) (f : Lane) → odd (suc n) f ≡ odd n f ⊕ f (suc n)
unfolding count
odd_suc n f = bit_add (count n f) (f (suc n))

pub odd_diff : (n : ℕ) (f g : Lane) → odd n (diff f g) ≡ odd n f ⊕ odd n g
unfolding count
odd_diff zero f g = unfold bit in refl
odd_diff (suc n) f g =
    odd_suc n (diff f g) ∙ ap (λ (b : Bool). b ⊕ (f (suc n) ⊕ g (suc n))) (odd_diff n f g)
    ∙ ⊕-swap (odd n f) (odd n g) (f (suc n)) (g (suc n)) ∙ sym (ap₂ ◌⊕◌ (odd_suc n f) (odd_suc n g))

-- two valid lanes differ by a valid one
pub valid_diff : {m : ℕ} {f g : Lane} → Valid m f → Valid m g → Valid m (diff f g)
valid_diff {m} {f} {g} u v =
    record {
      sum_zero = sum_diff m f g ∙ ap₂ bit_xor u.sum_zero v.sum_zero;
      even = odd_diff (suc m) f g ∙ ap₂ ◌⊕◌ u.even v.even;
    }

-- ---- lanes with the same rows have the same sum, count and validity

pub sum_same : (m : ℕ) (f g : Lane) → ((j : ℕ) → j < m → f (suc j) ≡ g (suc j)) → sum m f ≡ sum m g
unfolding sum
sum_same zero f g h = refl
sum_same (suc m) f g h =
    ap₂ (λ (s : ℕ) (b : Bool). bit_xor s (pick b (suc m))) (sum_same m f g (λ j l. h j (omega arith))) (h m (le_refl (suc m)))

pub count_same : (n : ℕ) (f g : Lane) → ((j : ℕ) → j < n → f (suc j) ≡ g (suc j)) → count n f ≡ count n g
unfolding count
count_same zero f g h = refl
count_same (suc n) f g h =
    ap₂ (λ (c : ℕ) (b : Bool). c + pick b 1) (count_same n f g (λ j l. h j (omega arith))) (h n (le_refl (suc n)))

pub valid_same : (m : ℕ) (f g : Lane) → ((j : ℕ) → j < suc m → f (suc j) ≡ g (suc j)) → Valid m f → Valid m g
valid_same m f g h v =
    record {
      sum_zero = sym (sum_same m f g (λ j l. h j (omega arith))) ∙ v.sum_zero;
      even = sym (ap (bit 0) (count_same (suc m) f g h)) ∙ v.even;
    }
