-- What the decision leaves: a valid lane, one change in an odd lane and none in an even one, and the lane that was meant. Assumes nothing.
use Prim.Native.Nat.{ℕ, zero, suc, ◌+◌, ◌≤◌, ◌<◌}
use mathlib.Core.Bool.{Bool, true, false, true≢false, cond}
use mathlib.Core.Path.{◌≡◌, refl, sym, ap, ◌∙◌}
use native.Mathlib.Nat.{le_refl}
use native.Mathlib.Omega.{arith}
use lib.Bits.{xor_zero_r}
use lib.Dec.{leb}
use borrow.Author.Tests.{leb-true, ne_eqb}
use Rattle.lane.specs.Bit.{bit, ◌⊕◌, pick}
use Rattle.lane.specs.Lane.{Lane, sum, count, odd, Valid, diff, apart}
use Rattle.lane.specs.Decision.{Decision, beyond, unchanged, lost, flipped, decision, decide, lost?, changes, mended, Right}
use Rattle.lane.proofs.Bits.{⊕-zero, bit_zero, pick_one}
use Rattle.lane.proofs.Linear.{count_same, valid_same}
use Rattle.lane.proofs.Distance.{never_two}
use Rattle.lane.proofs.Decided.{decided, only_within}

pub ⊕-cancel : (a b : Bool) → a ⊕ (a ⊕ b) ≡ b
⊕-cancel true true = refl
⊕-cancel true false = refl
⊕-cancel false b = refl

pub ⊕-self : (b : Bool) → b ⊕ b ≡ false
⊕-self true = refl
⊕-self false = refl

-- the lane that holds no ones
pub count_empty : (n : ℕ) → count n (λ p. false) ≡ 0
unfolding count
count_empty zero = refl
count_empty (suc n) = ap (λ (c : ℕ). c + 0) (count_empty n)

pub sum_empty : (m : ℕ) → sum m (λ p. false) ≡ 0
unfolding sum
sum_empty zero = refl
sum_empty (suc m) = xor_zero_r (sum m (λ p. false)) ∙ sum_empty m

pub valid_empty : (m : ℕ) → Valid m (λ p. false)
valid_empty m = record { sum_zero = sum_empty m; even = ap (bit 0) (count_empty (suc m)) ∙ bit_zero 0 }

module _ (m : ℕ) (f : Lane) where
  by_right : (d : Decision) → Right m f d → lost? d ≡ false → Valid m (diff f (changes d))
  by_right unchanged v ok = valid_same m f (diff f (changes unchanged)) (λ j l. sym (⊕-zero (f (suc j)))) v
  by_right (flipped r) v ok = v.2
  by_right (lost kind) v ok = absurd (true≢false ok)

  -- a lane that is not lost is valid once mended
  pub mended_valid : lost? (decide m f) ≡ false → Valid m (mended m f)
  mended_valid ok = by_right (decide m f) (decided m f) ok

  past : (d : Decision) → Right m f d → (p : ℕ) → suc m < p → changes d p ≡ false
  past unchanged r p h = refl
  past (flipped q) r p h = ne_eqb p q (λ e. omega (arith, r.1))
  past (lost kind) r p h = refl

  -- no row past the last is changed
  pub none_past : (p : ℕ) → suc m < p → changes (decide m f) p ≡ false
  none_past = past (decide m f) (decided m f)

  changed : (d : Decision) → apart m f (diff f (changes d)) ≡ count (suc m) (changes d)
  changed d = count_same (suc m) (diff f (diff f (changes d))) (changes d) (λ j l. ⊕-cancel (f (suc j)) (changes d (suc j)))

  by_row : (s : ℕ) (t : Bool) → leb (suc s) m ≡ t → lost? (cond t (flipped (suc s)) (lost beyond)) ≡ false
      → count (suc m) (changes (cond t (flipped (suc s)) (lost beyond))) ≡ 1
  by_row s true e ok = let h = leb-true (suc s) m e in (only_within (suc m) (suc s) (omega arith) (omega arith)).0
  by_row s false e ok = absurd (true≢false ok)

  by_case : (o : Bool) (s : ℕ) → lost? (decision m o s) ≡ false → count (suc m) (changes (decision m o s)) ≡ pick o 1
  unfolding decision
  by_case false zero ok = count_empty (suc m)
  by_case false (suc s) ok = absurd (true≢false ok)
  by_case true zero ok = (only_within (suc m) (suc m) (omega arith) (le_refl (suc m))).0
  by_case true (suc s) ok = by_row s (leb (suc s) m) refl ok

  -- mending changes one row of an odd lane and none of an even one
  pub mended_count : lost? (decide m f) ≡ false → apart m f (mended m f) ≡ pick (odd (suc m) f) 1
  mended_count ok = changed (decide m f) ∙ by_case (odd (suc m) f) (sum m f) ok

  pub mended_near : lost? (decide m f) ≡ false → apart m f (mended m f) ≤ 1
  mended_near ok = rw (mended_count ok) (pick_one (odd (suc m) f))

  module _ (g : Lane) (v : Valid m g) (h : apart m f g ≤ 1) where
    by_near : (d : Decision) → Right m f d → lost? d ≡ false
    by_near unchanged r = refl
    by_near (lost kind) r = absurd (r.1 g v h)
    by_near (flipped p) r = refl

    -- a lane within one row of a valid one is not lost, and is mended to that one
    pub near_kept : lost? (decide m f) ≡ false
    near_kept = by_near (decide m f) (decided m f)

    pub near_mended : (j : ℕ) → j < suc m → mended m f (suc j) ≡ g (suc j)
    near_mended = never_two m f (mended m f) g (mended_valid near_kept) v (mended_near near_kept) h

  -- a valid lane is not lost and stays as it is
  pub valid_near : Valid m f → apart m f f ≤ 1
  valid_near v = rw (count_same (suc m) (diff f f) (λ p. false) (λ j l. ⊕-self (f (suc j))), count_empty (suc m)) (omega arith)
