-- A valid lane with at most three ones has none, so valid lanes that differ in at most three rows are equal. Assumes nothing.
use Prim.Native.Nat.{ℕ, zero, suc, ◌+◌, ◌≤◌, ◌<◌}
use mathlib.Core.Bool.{Bool, true, false}
use mathlib.Core.Path.{◌≡◌, refl, sym, ap, ◌∙◌}
use mathlib.Core.Logic.{⊎_elim}
use native.Mathlib.Nat.{eq-or-lt_of_le, le_of_suc-le-suc}
use native.Mathlib.Omega.{arith}
use lib.Bits.{bit_xor, xor_zero_r}
use Rattle.lane.specs.Bit.{bit, ◌⊕◌, pick}
use Rattle.lane.specs.Lane.{Lane, sum, count, Valid, diff, apart}
use Rattle.lane.proofs.Bits.{xor_cancel}
use Rattle.lane.proofs.Linear.{valid_diff}

-- what the number of ones says of the sum of the first n rows
pub record Weight (n c s : ℕ) : Type 0 where
  pub none : c ≡ 0 → s ≡ 0
  pub one : c ≡ 1 → (0 < s) × (s ≤ n)
  pub two : c ≡ 2 → s ≡ 0 → ⊥

weight_step : (n c s : ℕ) (b : Bool) → Weight n c s → Weight (suc n) (c + pick b 1) (bit_xor s (pick b (suc n)))
weight_step n c s false w =
    rw xor_zero_r (record {
      none = λ e. w.none (omega arith);
      one = λ e. let p = w.one (omega arith) in omega arith;
      two = λ e. w.two (omega arith);
    })
weight_step n c s true w =
    record {
      none = λ e. absurd (omega arith);
      one = λ e. rw (w.none (omega arith)) (omega arith);
      two = λ e z. let p = w.one (omega arith) in let q = xor_cancel s (suc n) z in omega arith;
    }

pub weight : (n : ℕ) (f : Lane) → Weight n (count n f) (sum n f)
unfolding sum count
weight zero f = record { none = λ e. refl; one = λ e. absurd (omega arith); two = λ e z. absurd (omega arith) }
weight (suc n) f = weight_step n (count n f) (sum n f) (f (suc n)) (weight n f)

-- a valid lane has not two ones, the last row's among them
not_two : (m c s : ℕ) (b : Bool) → Weight m c s → s ≡ 0 → c + pick b 1 ≡ 2 → ⊥
not_two m c s false w z e = w.two (omega arith) z
not_two m c s true w z e = let p = w.one (omega arith) in omega arith

small : (c : ℕ) → c ≤ 3 → bit 0 c ≡ false → (c ≡ 2 → ⊥) → c ≡ 0
unfolding bit
small zero h e k = refl
small (suc zero) h e k = let z : ◌≡◌ {A = ℕ} 0 1 = cc in absurd (omega arith)
small (suc (suc zero)) h e k = absurd (k refl)
small (suc (suc (suc zero))) h e k = let z : ◌≡◌ {A = ℕ} 0 1 = cc in absurd (omega arith)
small (suc (suc (suc (suc c)))) h e k = absurd (omega arith)

-- a valid lane with at most three ones has none
pub light : (m : ℕ) (f : Lane) → Valid m f → count (suc m) f ≤ 3 → count (suc m) f ≡ 0
unfolding count
light m f v h = small (count (suc m) f) h v.even (not_two m (count m f) (sum m f) (f (suc m)) (weight m f) v.sum_zero)

-- no ones: every row holds a zero
empty_step : (c : ℕ) (b : Bool) → c + pick b 1 ≡ 0 → b ≡ false
empty_step c false e = refl
empty_step c true e = absurd (omega arith)

pub empty : (n : ℕ) (f : Lane) → count n f ≡ 0 → (j : ℕ) → j < n → f (suc j) ≡ false
unfolding count
empty zero f e j h = absurd (omega arith)
empty (suc n) f e j h =
    ⊎_elim (λ p. ap (λ (i : ℕ). f (suc i)) p ∙ empty_step (count n f) (f (suc n)) e) (λ l. empty n f (omega arith) j l) (eq-or-lt_of_le (le_of_suc-le-suc h))

pub ⊕-same : (a b : Bool) → a ⊕ b ≡ false → a ≡ b
⊕-same false b e = sym e
⊕-same true false e = e
⊕-same true true e = refl

-- two valid lanes that differ in at most three rows are equal
pub near_equal : (m : ℕ) (f g : Lane) → Valid m f → Valid m g → apart m f g ≤ 3 → (j : ℕ) → j < suc m → f (suc j) ≡ g (suc j)
near_equal m f g u v h j l =
    ⊕-same (f (suc j)) (g (suc j)) (empty (suc m) (diff f g) (light m (diff f g) (valid_diff u v) h) j l)

-- ---- two lanes that are each within some rows of a third

count_le : (n : ℕ) (d a b : Lane) → ((p : ℕ) → pick (d p) 1 ≤ pick (a p) 1 + pick (b p) 1) → count n d ≤ count n a + count n b
unfolding count
count_le zero d a b h = omega arith
count_le (suc n) d a b h = let k = count_le n d a b h in let q = h (suc n) in omega arith

between : (f g h : Bool) → pick (g ⊕ h) 1 ≤ pick (f ⊕ g) 1 + pick (f ⊕ h) 1
between false false h = omega arith
between false true false = omega arith
between false true true = omega arith
between true false false = omega arith
between true false true = omega arith
between true true false = omega arith
between true true true = omega arith

-- two lanes are apart in no more rows than both are from a third
pub apart_between : (m : ℕ) (f g h : Lane) → apart m g h ≤ apart m f g + apart m f h
apart_between m f g h = count_le (suc m) (diff g h) (diff f g) (diff f h) (λ j. between (f j) (g j) (h j))

-- never a second valid lane within one row
pub never_two : (m : ℕ) (f g h : Lane) → Valid m g → Valid m h → apart m f g ≤ 1 → apart m f h ≤ 1 → (j : ℕ) → j < suc m → g (suc j) ≡ h (suc j)
never_two m f g h u v p q = let c = apart_between m f g h in near_equal m g h u v (omega arith)
