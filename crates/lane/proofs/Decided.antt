-- The decision is right in all five cases. Assumes nothing.
use Prim.Native.Nat.{ℕ, zero, suc, ◌+◌, ◌≤◌, ◌<◌}
use mathlib.Core.Bool.{Bool, true, false, cond, true≢false}
use mathlib.Core.Path.{◌≡◌, refl, sym, ap, ◌∙◌}
use mathlib.Core.Logic.{◌⊎◌, inl, inr, ⊎_elim}
use native.Mathlib.Nat.{eq-or-lt_of_le, le_refl}
use native.Mathlib.Omega.{arith}
use lib.Bits.{bit_xor, xor_zero_r, xor_self}
use lib.Dec.{leb, eqb}
use borrow.Author.Tests.{leb-true, leb-false, eq-eqb, ne_eqb}
use Rattle.lane.specs.Bit.{bit, ◌⊕◌, pick}
use Rattle.lane.specs.Lane.{Lane, sum, count, odd, Valid, diff, apart}
use Rattle.lane.specs.Decision.{even, beyond, lost, flipped, decision, decide, Right}
use Rattle.lane.proofs.Bits.{⊕-zero, bit_one}
use Rattle.lane.proofs.Linear.{sum_diff, odd_diff}
use Rattle.lane.proofs.Distance.{Weight, weight}

-- ---- the lane with a one in row r alone

abbrev pub only : ℕ → Lane
only r p = eqb p r

pub only_above : (n r : ℕ) → n < r → (count n (only r) ≡ 0) × (sum n (only r) ≡ 0)
unfolding sum count
only_above zero r h = (refl, refl)
only_above (suc n) r h =
    let p = only_above n r (omega arith) in
    rw (ne_eqb (suc n) r (omega arith)) (omega arith, rw xor_zero_r p.1)

pub only_within : (n r : ℕ) → 1 ≤ r → r ≤ n → (count n (only r) ≡ 1) × (sum n (only r) ≡ r)
unfolding sum count
only_within zero r l h = absurd (omega arith)
only_within (suc n) r l h =
    ⊎_elim
    (λ e. let p = only_above n r (omega arith) in rw (eq-eqb (suc n) r (sym e), p.0, p.1, e) (refl, refl))
    (λ k. let p = only_within n r l (omega arith) in rw (ne_eqb (suc n) r (omega arith)) (omega arith, rw xor_zero_r p.1))
    (eq-or-lt_of_le h)

-- a flip in row r changes the sum by the row's number, and the last row's flip does not; the parity changes
pub flip_sum : (m r : ℕ) (f : Lane) → 1 ≤ r → r ≤ m → sum m (diff f (only r)) ≡ bit_xor (sum m f) r
flip_sum m r f l h = sum_diff m f (only r) ∙ ap (bit_xor (sum m f)) (only_within m r l h).1

pub flip_last : (m : ℕ) (f : Lane) → sum m (diff f (only (suc m))) ≡ sum m f
flip_last m f = sum_diff m f (only (suc m)) ∙ ap (bit_xor (sum m f)) (only_above m (suc m) (le_refl (suc m))).1 ∙ xor_zero_r (sum m f)

pub flip_odd : (m r : ℕ) (f : Lane) → 1 ≤ r → r ≤ suc m → odd (suc m) (diff f (only r)) ≡ odd (suc m) f ⊕ true
flip_odd m r f l h =
    odd_diff (suc m) f (only r) ∙ ap (λ (b : Bool). odd (suc m) f ⊕ b) (ap (bit 0) (only_within (suc m) r l h).0 ∙ bit_one)

-- ---- each case is right

-- at most one row: an even lane sums to 0, and an odd one to no more than m
few : (m c s : ℕ) (b : Bool) → Weight m c s → c + pick b 1 ≤ 1
    → ((bit 0 (c + pick b 1) ≡ false) × (s ≡ 0)) ⊎ ((bit 0 (c + pick b 1) ≡ true) × (s ≤ m))
unfolding bit
few m zero s false w h = inl (refl, w.none refl)
few m zero s true w h = let z = w.none refl in inr (refl, omega arith)
few m (suc zero) s false w h = inr (refl, (w.one refl).1)
few m (suc zero) s true w h = absurd (omega arith)
few m (suc (suc c)) s b w h = absurd (omega arith)

module _ (m : ℕ) (f : Lane) where
  -- a lane within one row of a valid one has the parity and the sum of their difference
  within : (g : Lane) → Valid m g → (odd (suc m) f ≡ bit 0 (apart m f g)) × (sum m f ≡ sum m (diff f g))
  within g v = (
    sym (odd_diff (suc m) f g ∙ ap (λ (b : Bool). odd (suc m) f ⊕ b) v.even ∙ ⊕-zero (odd (suc m) f)),
    sym (sum_diff m f g ∙ ap (bit_xor (sum m f)) v.sum_zero ∙ xor_zero_r (sum m f)),
  )

  -- so an even lane sums to 0, and an odd one to no more than m
  near_valid : (g : Lane) → Valid m g → apart m f g ≤ 1
      → ((odd (suc m) f ≡ false) × (sum m f ≡ 0)) ⊎ ((odd (suc m) f ≡ true) × (sum m f ≤ m))
  unfolding count
  near_valid g v h =
      let w = within g v in
      rw (w.0, w.1) (few m (count m (diff f g)) (sum m (diff f g)) (f (suc m) ⊕ g (suc m)) (weight m (diff f g)) h)

  odd_then_even : (r : ℕ) → 1 ≤ r → r ≤ suc m → odd (suc m) f ≡ true → odd (suc m) (diff f (only r)) ≡ false
  odd_then_even r l h o = flip_odd m r f l h ∙ ap (λ (b : Bool). b ⊕ true) o

  by_row : (s : ℕ) (t : Bool) → leb (suc s) m ≡ t → odd (suc m) f ≡ true → sum m f ≡ suc s → Right m f (cond t (flipped (suc s)) (lost beyond))
  by_row s true l o e =
      let h = leb-true (suc s) m l in (
        omega arith,
        omega arith,
        record {
          sum_zero = flip_sum m (suc s) f (omega arith) h ∙ ap (λ (x : ℕ). bit_xor x (suc s)) e ∙ xor_self (suc s);
          even = odd_then_even (suc s) (omega arith) (omega arith) o;
        },
      )
  by_row s false l o e =
      let k = leb-false (suc s) m l in
      ((o, omega arith), λ g v h. ⊎_elim (λ c. omega arith) (λ c. omega arith) (near_valid g v h))

  by_case : (o : Bool) (s : ℕ) → odd (suc m) f ≡ o → sum m f ≡ s → Right m f (decision m o s)
  unfolding decision
  by_case false zero o e = record { sum_zero = e; even = o }
  by_case false (suc s) o e =
      ((o, λ z. omega arith), λ g v h. ⊎_elim (λ c. omega arith) (λ c. true≢false (sym c.0 ∙ o)) (near_valid g v h))
  by_case true zero o e =
      (omega arith, omega arith, record { sum_zero = flip_last m f ∙ e; even = odd_then_even (suc m) (omega arith) (le_refl (suc m)) o })
  by_case true (suc s) o e = by_row s (leb (suc s) m) refl o e

  pub decided : Right m f (decide m f)
  decided = by_case _ _ (cc) (cc)
