-- Laws of a list of asks: one block more at the end, and where a block stands. Assumes nothing.
use Prim.Native.Nat.{ℕ, zero, suc, ◌≤◌}
use mathlib.Core.Bool.{Bool, true, false, cond, ◌&&◌, and-false}
use mathlib.Core.Path.{◌≡◌, refl, sym, ap, ◌∙◌}
use mathlib.Core.List.{List, [], ◌∷◌, ◌++◌}
use native.Mathlib.Omega.{arith}
use lib.ListN.{length}
use lib.Dec.{ltb, eqb}
use borrow.Author.Tests.{ne_eqb, eqb-true, eqb-false, le-ltb}
use Rattle.ground.proofs.Bools.{both}
use Rattle.rota.specs.Line.{further, place, below, none_twice}

-- ---- one block more

place_zero : (b a : ℕ) (l : List ℕ) → place b (a ∷ l) ≡ 0 → (eqb a b ≡ false) × (place b l ≡ 0)
unfolding place
place_zero b a l e = go (eqb a b) (place b l) e
  where
    go : (t : Bool) (k : ℕ) → cond t 1 (further k) ≡ 0 → (t ≡ false) × (k ≡ 0)
    go true k e = absurd (omega arith)
    go false zero e = (refl, refl)
    go false (suc k) e = absurd (omega arith)

place_snoc : (b a : ℕ) (l : List ℕ) → place b l ≡ 0 → eqb a b ≡ false → place b (l ++ a ∷ []) ≡ 0
unfolding place
place_snoc b a [] e f = rw f
place_snoc b a (c ∷ l) e f = let z = place_zero b c l e in rw (z.0, place_snoc b a l z.1 f)

pub below_snoc : (n b : ℕ) (l : List ℕ) → below n l ≡ true → ltb b n ≡ true → below n (l ++ b ∷ []) ≡ true
unfolding below
below_snoc n b [] e f = rw f
below_snoc n b (c ∷ l) e f = let z = both (ltb c n) (below n l) e in rw (z.0, below_snoc n b l z.1 f)

pub once_snoc : (b : ℕ) (l : List ℕ) → none_twice l ≡ true → place b l ≡ 0 → none_twice (l ++ b ∷ []) ≡ true
unfolding none_twice place
once_snoc b [] e f = refl
once_snoc b (c ∷ l) e f =
    let z = both (eqb (place c l) 0) (none_twice l) e in
    let w = place_zero b c l f in
    let q : eqb b c ≡ false = ne_eqb b c (λ h. eqb-false c b w.0 (sym h)) in
    rw (place_snoc c b l (eqb-true _ _ z.0) q, once_snoc b l z.1 w.1)

-- ---- a block in the midst

place_there : (b : ℕ) (xs ys : List ℕ) → place b (xs ++ b ∷ ys) ≡ 0 → ⊥
place_there b [] ys e = eqb-false b b (place_zero b b ys e).0 refl
place_there b (a ∷ xs) ys e = place_there b xs ys (place_zero b a (xs ++ b ∷ ys) e).1

-- a block that is too large
pub below_no : (n b : ℕ) (xs ys : List ℕ) → n ≤ b → below n (xs ++ b ∷ ys) ≡ false
unfolding below
below_no n b [] ys h = rw (le-ltb b n h)
below_no n b (a ∷ xs) ys h = ap (λ (t : Bool). ltb a n && t) (below_no n b xs ys h) ∙ and-false (ltb a n)

-- a block that stands in front already
pub once_no : (b : ℕ) (xs ys : List ℕ) → (place b xs ≡ 0 → ⊥) → none_twice (xs ++ b ∷ ys) ≡ false
unfolding none_twice place
once_no b [] ys ne = absurd (ne refl)
once_no b (a ∷ xs) ys ne = go (once_no b xs ys) (eqb a b) refl ne
  where
    go : ((place b xs ≡ 0 → ⊥) → none_twice (xs ++ b ∷ ys) ≡ false) → (t : Bool) → eqb a b ≡ t → (cond t 1 (further (place b xs)) ≡ 0 → ⊥)
        → (eqb (place a (xs ++ b ∷ ys)) 0 && none_twice (xs ++ b ∷ ys)) ≡ false
    go ih true e ne = rw (eqb-true a b e, ne_eqb (place b (xs ++ b ∷ ys)) 0 (place_there b xs ys))
    go ih false e ne = ap (λ (t : Bool). eqb (place a (xs ++ b ∷ ys)) 0 && t) (ih (λ z. ne (ap further z))) ∙ and-false (eqb (place a (xs ++ b ∷ ys)) 0)

-- ---- where a block stands

-- the block has k others in front of it
pub data Stands (b : ℕ) : ℕ → List ℕ → Type 0 where
  first : {l : List ℕ} → Stands b 0 (b ∷ l)
  behind : {a k : ℕ} {l : List ℕ} → Stands b k l → Stands b (suc k) (a ∷ l)

pub stands_more : {b k : ℕ} {l : List ℕ} (e : List ℕ) → Stands b k l → Stands b k (l ++ e)
stands_more e first = first
stands_more e (behind s) = behind (stands_more e s)

pub stands_last : (b : ℕ) (l : List ℕ) → Stands b (length l) (l ++ b ∷ [])
stands_last b [] = first
stands_last b (a ∷ l) = behind (stands_last b l)

pub stands_at : (b : ℕ) (l : List ℕ) (k : ℕ) → place b l ≡ suc k → Stands b k l
unfolding place
stands_at b [] k e = absurd (omega arith)
stands_at b (a ∷ l) k e = go (λ j. stands_at b l j) (eqb a b) refl (place b l) refl k e
  where
    go : ((j : ℕ) → place b l ≡ suc j → Stands b j l) → (t : Bool) → eqb a b ≡ t → (j : ℕ) → place b l ≡ j
        → (k : ℕ) → cond t 1 (further j) ≡ suc k → Stands b k (a ∷ l)
    go ih true h j f zero e = rw (eqb-true a b h) first
    go ih true h j f (suc k) e = absurd (omega arith)
    go ih false h zero f k e = absurd (omega arith)
    go ih false h (suc j) f zero e = absurd (omega arith)
    go ih false h (suc j) f (suc k) e = behind (ih k (omega arith))

pub place_le : (b : ℕ) (l : List ℕ) → place b l ≤ length l
unfolding place
place_le b [] = omega arith
place_le b (a ∷ l) = go (eqb a b) (place b l) (place_le b l)
  where
    go : (t : Bool) (k : ℕ) → k ≤ length l → cond t 1 (further k) ≤ suc (length l)
    go true k h = omega arith
    go false zero h = omega arith
    go false (suc k) h = omega arith
