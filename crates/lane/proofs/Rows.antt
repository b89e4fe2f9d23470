-- A list of rows that pass a test has each of them once, lowest first; the powers of two are found by their digits. Assumes nothing.
use Prim.Native.Nat.{ℕ, zero, suc, ◌+◌, ◌/◌, ◌%◌, ◌^◌, ◌≤◌, ◌<◌}
use mathlib.Core.Bool.{Bool, true, false, not, cond, ◌||◌, true≢false, false≢true}
use mathlib.Core.Path.{◌≡◌, refl, sym, ap, ◌∙◌}
use mathlib.Core.List.{List, [], ◌∷◌, ◌++◌, append-nil}
use mathlib.Core.Logic.{◌⊎◌, inl, inr, ⊎_elim}
use native.Mathlib.Nat.{pow-suc, eq-or-lt_of_le, le_of_suc-le-suc}
use native.Mathlib.Omega.{arith}
use lib.Dec.{eqb}
use lib.ListN.{length, get_or, length-append, get_or-append}
use lib.Seq.{get_or-append_seam}
use lib.Pow.{pow_mono}
use borrow.Author.Tests.{eqb-true, eqb-false, not-true}
use Rattle.lane.specs.Bit.{set?, bit}
use Rattle.lane.specs.Rows.{power?, DataRow, rows_where}
use Rattle.lane.proofs.Bits.{bit_zero}

-- a test is passed or failed
pub either : (b : Bool) → (b ≡ true) ⊎ (b ≡ false)
either true = inl refl
either false = inr refl

-- a number is below another or not
pub split_below : (a b : ℕ) → (a < b) ⊎ (b ≤ a)
split_below a zero = inr (omega arith)
split_below zero (suc b) = inl (omega arith)
split_below (suc a) (suc b) = ⊎_elim (λ h. inl (omega arith)) (λ h. inr (omega arith)) (split_below a b)

-- ---- the digits of a power of two

pow_half : (k : ℕ) → 2 ^ suc k / 2 ≡ 2 ^ k
pow_half k = let e = pow-suc 2 k in omega arith

pow_even : (k : ℕ) → 2 ^ suc k % 2 ≡ 0
pow_even k = let e = pow-suc 2 k in omega arith

pub power_digit : (k : ℕ) → bit k (2 ^ k) ≡ true
unfolding bit
power_digit zero = refl
power_digit (suc k) = ap (bit k) (pow_half k) ∙ power_digit k

pub power_other : (k l : ℕ) → bit k (2 ^ l) ≡ true → k ≡ l
unfolding bit
power_other zero zero e = refl
power_other zero (suc l) e = absurd (false≢true (sym (ap set? (pow_even l)) ∙ e))
power_other (suc k) zero e = absurd (false≢true (sym (bit_zero k) ∙ e))
power_other (suc k) (suc l) e = ap suc (power_other k l (sym (ap (bit k) (pow_half l)) ∙ e))

pub power_apart : (k l : ℕ) → (k ≡ l → ⊥) → bit k (2 ^ l) ≡ false
power_apart k l ne = ⊎_elim (λ t. absurd (ne (power_other k l t))) (λ t. t) (either (bit k (2 ^ l)))

-- ---- the test for a power of two is right below 2^k

pub power_found : (k p : ℕ) → power? k p ≡ true → (l : ℕ) × (l < k) × (p ≡ 2 ^ l)
unfolding power?
power_found zero p e = absurd (false≢true e)
power_found (suc k) p e = go (power_found k p) (power? k p) refl (eqb p (2 ^ k)) refl e
  where
    go : (power? k p ≡ true → (l : ℕ) × (l < k) × (p ≡ 2 ^ l)) → (a : Bool) → power? k p ≡ a → (b : Bool) → eqb p (2 ^ k) ≡ b → a || b ≡ true
        → (l : ℕ) × (l < suc k) × (p ≡ 2 ^ l)
    go ih true q b r t = let h = ih q in (h.0, omega (arith, h.1), h.2)
    go ih false q true r t = (k, omega arith, eqb-true p (2 ^ k) r)
    go ih false q false r t = absurd (false≢true t)

pub power_none : (k p : ℕ) → power? k p ≡ false → (l : ℕ) → l < k → p ≡ 2 ^ l → ⊥
unfolding power?
power_none zero p e l h = absurd (omega arith)
power_none (suc k) p e l h = go (λ q. power_none k p q l) (power? k p) refl (eqb p (2 ^ k)) refl e
  where
    go : (power? k p ≡ false → l < k → p ≡ 2 ^ l → ⊥) → (a : Bool) → power? k p ≡ a → (b : Bool) → eqb p (2 ^ k) ≡ b → a || b ≡ false → p ≡ 2 ^ l → ⊥
    go ih true q b r t = absurd (true≢false t)
    go ih false q true r t = absurd (true≢false t)
    go ih false q false r t =
        ⊎_elim (λ s w. eqb-false p (2 ^ k) r (w ∙ ap (λ (x : ℕ). 2 ^ x) s)) (λ s. ih q s) (eq-or-lt_of_le (le_of_suc-le-suc h))

-- so a row before the last that fails it is a data row, where all m number below 2^k
pub data_row : (k m p : ℕ) → m < 2 ^ k → 1 ≤ p → p ≤ m → not (power? k p) ≡ true → DataRow m p
data_row k m p hm l h e =
    record {
      first = l;
      last = h;
      no_power =
          λ i q.
          ⊎_elim (λ b. power_none k p (not-true (power? k p) e) i b q) (λ b. let g : 2 ^ k ≤ 2 ^ i = pow_mono b in omega arith) (split_below i k);
    }

pub data_fails : (k m p : ℕ) → DataRow m p → not (power? k p) ≡ true
data_fails k m p d = go (power? k p) refl
  where
    go : (b : Bool) → power? k p ≡ b → not b ≡ true
    go true e = let f = power_found k p e in absurd (d.no_power f.0 f.2)
    go false e = refl

-- ---- a list of rows that pass a test

-- an entry of a list with one more is the last, or one of those before
last_or_before : (l : List ℕ) (p k : ℕ) → k < length (l ++ p ∷ [])
    → ((k < length l) × (get_or (l ++ p ∷ []) k 0 ≡ get_or l k 0)) ⊎ ((k ≡ length l) × (get_or (l ++ p ∷ []) k 0 ≡ p))
last_or_before l p k h =
    let e : length (l ++ p ∷ []) ≡ length l + 1 = length-append l (p ∷ []) in
    ⊎_elim (λ q. inr (q, rw q (get_or-append_seam l p [] 0))) (λ q. inl (q, get_or-append l (p ∷ []) 0 k q)) (eq-or-lt_of_le (omega arith))

module _ (test : ℕ → Bool) where
  -- each entry is a row that passes
  pub row_passes : (n k : ℕ) → k < length (rows_where test n)
      → (1 ≤ get_or (rows_where test n) k 0) × (get_or (rows_where test n) k 0 ≤ n) × (test (get_or (rows_where test n) k 0) ≡ true)
  unfolding rows_where
  row_passes zero k h = absurd (omega arith)
  row_passes (suc n) k h = go (row_passes n k) (test (suc n)) refl h
    where
      go : (k < length (rows_where test n)
          → (1 ≤ get_or (rows_where test n) k 0) × (get_or (rows_where test n) k 0 ≤ n) × (test (get_or (rows_where test n) k 0) ≡ true))
          → (b : Bool) → test (suc n) ≡ b → k < length (rows_where test n ++ cond b (suc n ∷ []) [])
          → (1 ≤ get_or (rows_where test n ++ cond b (suc n ∷ []) []) k 0) × (get_or (rows_where test n ++ cond b (suc n ∷ []) []) k 0 ≤ suc n)
          × (test (get_or (rows_where test n ++ cond b (suc n ∷ []) []) k 0) ≡ true)
      go ih true e h =
          ⊎_elim (λ q. let r = ih q.0 in rw q.1 (r.0, omega (arith, r.1), r.2)) (λ q. rw q.1 (omega arith, omega arith, e))
          (last_or_before (rows_where test n) (suc n) k h)
      go ih false e h = rw (append-nil (rows_where test n)) (let r = ih (rw (append-nil (rows_where test n)) at h) in (r.0, omega (arith, r.1), r.2))

  -- each row that passes is an entry
  pub row_there : (n p : ℕ) → 1 ≤ p → p ≤ n → test p ≡ true → (k : ℕ) × (k < length (rows_where test n)) × (get_or (rows_where test n) k 0 ≡ p)
  unfolding rows_where
  row_there zero p l h e = absurd (omega arith)
  row_there (suc n) p l h e =
      ⊎_elim
      (λ q.
      let t : test (suc n) ≡ true = ap test (sym q) ∙ e in
      let list = rows_where test n in
      rw t (length list, rw (length-append list (suc n ∷ [])) (omega arith), get_or-append_seam list (suc n) [] 0 ∙ sym q))
      (λ q.
      let r = row_there n p l (omega arith) e in (
        r.0,
        rw (length-append (rows_where test n) (cond (test (suc n)) (suc n ∷ []) [])) (omega (arith, r.1)),
        get_or-append (rows_where test n) (cond (test (suc n)) (suc n ∷ []) []) 0 r.0 r.1 ∙ r.2,
      ))
      (eq-or-lt_of_le h)

  -- the entries rise
  pub rows_rise : (n j k : ℕ) → j < k → k < length (rows_where test n) → get_or (rows_where test n) j 0 < get_or (rows_where test n) k 0
  unfolding rows_where
  rows_rise zero j k l h = absurd (omega arith)
  rows_rise (suc n) j k l h = go (rows_rise n j k l) (test (suc n)) h
    where
      go : (k < length (rows_where test n) → get_or (rows_where test n) j 0 < get_or (rows_where test n) k 0) → (b : Bool)
          → k < length (rows_where test n ++ cond b (suc n ∷ []) [])
          → get_or (rows_where test n ++ cond b (suc n ∷ []) []) j 0 < get_or (rows_where test n ++ cond b (suc n ∷ []) []) k 0
      go ih true h =
          ⊎_elim
          (λ q. rw (q.1, get_or-append (rows_where test n) (suc n ∷ []) 0 j (omega (arith, q.0))) (ih q.0))
          (λ q.
          let w : j < length (rows_where test n) = omega (arith, q.0) in
          rw (q.1, get_or-append (rows_where test n) (suc n ∷ []) 0 j w) (omega (arith, (row_passes n j w).1)))
          (last_or_before (rows_where test n) (suc n) k h)
      go ih false h = rw (append-nil (rows_where test n)) (ih (rw (append-nil (rows_where test n)) at h))
