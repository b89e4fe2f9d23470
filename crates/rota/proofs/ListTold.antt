-- Tests of a list's numbers tell of its places: each fails exactly where some place, or two, hold what it is to rule out.
-- Assumes nothing.
use Prim.Native.Nat.{ℕ, zero, suc, ◌≤◌, ◌<◌}
use mathlib.Core.Bool.{Bool, true, false, cond, ◌&&◌}
use mathlib.Core.Path.{◌≡◌, refl, sym}
use mathlib.Core.List.{List, [], ◌∷◌}
use mathlib.Core.Logic.{◌⊎◌, inl, inr, ⊎_elim}
use native.Mathlib.Omega.{arith}
use lib.Dec.{eqb, eqb-suc-zero}
use lib.ListN.{length, get_or}
use borrow.Author.Tests.{eqb-true, eqb-false}
use Rattle.ground.proofs.Told.{Told, holds, fails, told_same, told_or, ltb_told, eqb_told}
use Rattle.rota.specs.Line.{further, place, below, none_twice, zeros}

-- ---- some place of a list

pub record Some (P : ℕ → Type 0) (l : List ℕ) : Type 0 where
  pub at : ℕ
  pub inside : at < length l
  pub has : P (get_or l at 0)

none : (P : ℕ → Type 0) → Told (Some P []) true
none P = fails (λ s. omega (arith, s.inside))

module _ (P : ℕ → Type 0) (a : ℕ) (l : List ℕ) where
  together : P a ⊎ Some P l → Some P (a ∷ l)
  together =
      ⊎_elim (λ p. record { at = 0; inside = omega arith; has = p }) (λ s. record { at = suc s.at; inside = omega (arith, s.inside); has = s.has })

  parted : Some P (a ∷ l) → P a ⊎ Some P l
  parted s = go s.at s.inside s.has
    where
      go : (k : ℕ) → k < suc (length l) → P (get_or (a ∷ l) k 0) → P a ⊎ Some P l
      go zero h p = inl p
      go (suc k) h p = inr (record { at = k; inside = omega arith; has = p })

  -- one place more in front
  more : {t u : Bool} → Told (P a) t → Told (Some P l) u → Told (Some P (a ∷ l)) (t && u)
  more p s = told_same together parted (told_or p s)

pub below_told : (n : ℕ) (l : List ℕ) → Told (Some (λ b. n ≤ b) l) (below n l)
unfolding below
below_told n [] = none (λ b. n ≤ b)
below_told n (a ∷ l) = more (λ b. n ≤ b) a l (ltb_told a n) (below_told n l)

pub zeros_told : (l : List ℕ) → Told (Some (λ b. b ≡ 0 → ⊥) l) (zeros l)
unfolding zeros
zeros_told [] = none (λ b. b ≡ 0 → ⊥)
zeros_told (a ∷ l) = more (λ b. b ≡ 0 → ⊥) a l (eqb_told a 0) (zeros_told l)

pub waiting_told : (b : ℕ) (l : List ℕ) → Told (Some (λ a. a ≡ b) l) (eqb (place b l) 0)
unfolding place
waiting_told b [] = none (λ a. a ≡ b)
waiting_told b (a ∷ l) = told_same (together (λ c. c ≡ b) a l) (parted (λ c. c ≡ b) a l) (go (eqb a b) refl (place b l) (waiting_told b l))
  where
    go : (t : Bool) → eqb a b ≡ t → (k : ℕ) → Told (Some (λ c. c ≡ b) l) (eqb k 0)
        → Told ((a ≡ b) ⊎ Some (λ c. c ≡ b) l) (eqb (cond t 1 (further k)) 0)
    go true e k s = holds (inl (eqb-true a b e))
    go false e zero s = told_or (fails (eqb-false a b e)) s
    go false e (suc k) s = rw (eqb-suc-zero (suc k)) (told_or (fails (eqb-false a b e)) (rw (eqb-suc-zero k) at s))

-- ---- two places of a list with the same number

pub record Twice (l : List ℕ) : Type 0 where
  pub early : ℕ
  pub late : ℕ
  pub order : early < late
  pub inside : late < length l
  pub same : get_or l early 0 ≡ get_or l late 0

pub twice_told : (l : List ℕ) → Told (Twice l) (none_twice l)
unfolding none_twice
twice_told [] = fails (λ t. omega (arith, t.inside))
twice_told (a ∷ l) = told_same made split (told_or (waiting_told a l) (twice_told l))
  where
    made : Some (λ b. b ≡ a) l ⊎ Twice l → Twice (a ∷ l)
    made =
        ⊎_elim
        (λ s. record { early = 0; late = suc s.at; order = omega arith; inside = omega (arith, s.inside); same = sym s.has })
        (λ t. record { early = suc t.early; late = suc t.late; order = omega (arith, t.order); inside = omega (arith, t.inside); same = t.same })

    go : (k j : ℕ) → k < j → j < suc (length l) → get_or (a ∷ l) k 0 ≡ get_or (a ∷ l) j 0 → Some (λ b. b ≡ a) l ⊎ Twice l
    go k zero h i e = absurd (omega arith)
    go zero (suc j) h i e = inl (record { at = j; inside = omega arith; has = sym e })
    go (suc k) (suc j) h i e = inr (record { early = k; late = j; order = omega arith; inside = omega arith; same = e })

    split : Twice (a ∷ l) → Some (λ b. b ≡ a) l ⊎ Twice l
    split t = go t.early t.late t.order t.inside t.same
