-- The places of a line's array, passed one by one as the code does. Assumes nothing.
use Prim.Native.Nat.{ℕ, zero, suc, ◌+◌, ◌-◌, ◌≤◌, ◌<◌}
use mathlib.Core.Bool.{Bool, true, false, ◌&&◌, and-false, true≢false, false≢true}
use mathlib.Core.Path.{◌≡◌, refl, sym, ap, ap₂, ◌∙◌}
use mathlib.Core.List.{List, [], ◌∷◌, ◌++◌}
use native.Mathlib.Omega.{arith}
use native.Mathlib.Numerals.{add-one}
use lib.ListN.{length, get_or, take, drop, set, replicate, length-drop, drop_of_length-le}
use lib.Seq.{split_at, take-suc, drop-cons, set_at, take_all}
use Rattle.std.specs.Prelude.{Option, Some as Given, None, is_some, option_map, MatchOption, eqb}
use Rattle.std.specs.List.{copy_within, AllWithin, HoldsAt}
use Rattle.std.specs.Bool.{MatchBool}
use Rattle.ground.proofs.Told.{Told, holds, fails}
use Rattle.rota.proofs.ListTold.{zeros_told}
use borrow.Author.Tests.{eq-eqb, ne_eqb, eqb-true, lt-ltb}
use Rattle.ground.proofs.Bools.{both}
use Rattle.rota.specs.Line.{place, place_of, some_place, below, none_twice, zeros}
use Rattle.rota.proofs.Waiting.{below_snoc, once_snoc, below_no, once_no}

-- ---- the places in use

pub place_none : (b : ℕ) (l : List ℕ) → ((k d : ℕ) → 0 ≤ k → k < length l → get_or l k d ≡ b → ⊥) → place b l ≡ 0
unfolding place
place_none b [] h = refl
place_none b (a ∷ l) h =
    rw (ne_eqb a b (h 0 0 (omega arith) (omega arith)), place_none b l (λ k d z i. h (suc k) d (omega arith) (omega arith)))

pub place_at : (b : ℕ) (l : List ℕ) (i : ℕ) → i < length l → get_or l i 0 ≡ b → ((k d : ℕ) → 0 ≤ k → k < i → get_or l k d ≡ b → ⊥)
    → place b l ≡ suc i
unfolding place
place_at b [] i h e f = absurd (omega arith)
place_at b (a ∷ l) zero h e f = rw (eq-eqb a b e)
place_at b (a ∷ l) (suc i) h e f =
    rw (ne_eqb a b (f 0 0 (omega arith) (omega arith)), place_at b l i (omega arith) e (λ k d z j. f (suc k) d (omega arith) (omega arith)))

pub not_placed : (b : ℕ) (l : List ℕ) → None ≡ place_of b l → place b l ≡ 0
not_placed b l e = go (place b l) e
  where
    go : (k : ℕ) → None ≡ some_place k → k ≡ 0
    go zero e = refl
    go (suc k) e = cc

pub placed : (j b : ℕ) (l : List ℕ) → Given j ≡ place_of b l → (k : ℕ) × (j ≡ suc k) × (place b l ≡ suc k)
placed j b l e = go (place b l) e
  where
    go : (m : ℕ) → Given j ≡ some_place m → (k : ℕ) × (j ≡ suc k) × (m ≡ suc k)
    go zero e = cc
    go (suc k) e = (k, cc, refl)

-- as the code looks for it
pub place_is : (b : ℕ) (l : List ℕ) (r : Option ℕ)
    → MatchOption r (AllWithin (λ x. x ≡ b → ⊥) l 0 (length l))
    (λ i. (i < length l) × HoldsAt (λ x. x ≡ b) l i × AllWithin (λ x. x ≡ b → ⊥) l 0 i)
    → option_map (λ i. i + 1) r ≡ place_of b l
place_is b l None f = rw (place_none b l f)
place_is b l (Given i) f = rw (place_at b l i f.0 (f.1 0) f.2, add-one i)

-- whether a block waits
pub waits : (b : ℕ) (l : List ℕ) (r : Option ℕ) → option_map (λ i. i + 1) r ≡ place_of b l → is_some r ≡ true → place b l ≡ 0 → ⊥
waits b l None e s z = absurd (false≢true s)
waits b l (Given i) e s z = let f : Given (i + 1) ≡ None = rw z at e in cc

pub waits_not : (b : ℕ) (l : List ℕ) (r : Option ℕ) → option_map (λ i. i + 1) r ≡ place_of b l → is_some r ≡ false → place b l ≡ 0
waits_not b l None e s = not_placed b l e
waits_not b l (Given i) e s = absurd (true≢false s)

-- one more is passed
passed : (l : List ℕ) (i : ℕ) → i < length l → take (i + 1) l ≡ take i l ++ get_or l i 0 ∷ []
passed l i h = ap (λ (k : ℕ). take k l) (add-one i) ∙ take-suc l i 0 h

pub below_next : (n : ℕ) (l : List ℕ) (i : ℕ) → i < length l → below n (take i l) ≡ true → get_or l i 0 < n → below n (take (i + 1) l) ≡ true
below_next n l i h z q = ap (below n) (passed l i h) ∙ below_snoc n (get_or l i 0) (take i l) z (lt-ltb (get_or l i 0) n q)

pub once_next : (l : List ℕ) (i : ℕ) → i < length l → none_twice (take i l) ≡ true → place (get_or l i 0) (take i l) ≡ 0
    → none_twice (take (i + 1) l) ≡ true
once_next l i h z q = ap none_twice (passed l i h) ∙ once_snoc (get_or l i 0) (take i l) z q

pub below_fails : (n : ℕ) (l : List ℕ) (i : ℕ) → i < length l → n ≤ get_or l i 0 → false ≡ (below n l && none_twice l)
below_fails n l i h q =
    sym
    (ap (λ (t : Bool). t && none_twice l) (ap (below n) (split_at l i 0 h) ∙ below_no n (get_or l i 0) (take i l) (drop (suc i) l) q))

pub once_fails : (n : ℕ) (l : List ℕ) (i : ℕ) → i < length l → (place (get_or l i 0) (take i l) ≡ 0 → ⊥) → false ≡ (below n l && none_twice l)
once_fails n l i h q =
    sym
    (ap (λ (t : Bool). below n l && t) (ap none_twice (split_at l i 0 h) ∙ once_no (get_or l i 0) (take i l) (drop (suc i) l) q)
    ∙ and-false (below n l))

-- ---- the unused places

told_is : {P : Type 0} {t : Bool} → Told P t → (r : Bool) → MatchBool r (P → ⊥) P → r ≡ t
told_is (holds p) true f = absurd (f p)
told_is (holds p) false f = refl
told_is (fails q) true f = refl
told_is (fails q) false p = absurd (q p)

-- as the code tests them
pub zeros_is : (l : List ℕ) (r : Bool)
    → MatchBool r (AllWithin (λ x. x ≡ 0) l 0 (length l)) ((k : ℕ) × (k < length l) × HoldsAt (λ x. x ≡ 0 → ⊥) l k)
    → r ≡ zeros l
zeros_is l true f = told_is (zeros_told l) true (λ s. s.has (f s.at 0 (omega arith) s.inside))
zeros_is l false f = told_is (zeros_told l) false (record { at = f.0; inside = f.1; has = f.2 0 })

pub zeros_replicate : (l : List ℕ) → zeros l ≡ true → l ≡ replicate (length l) 0
unfolding zeros
zeros_replicate [] e = refl
zeros_replicate (a ∷ l) e =
    let z = both (eqb a 0) (zeros l) e in
    ap₂ (λ (x : ℕ) (y : List ℕ). x ∷ y) (eqb-true a 0 z.0) (zeros_replicate l z.1)

pub replicate_zeros : (k : ℕ) → zeros (replicate k 0) ≡ true
unfolding zeros
replicate_zeros zero = refl
replicate_zeros (suc k) = replicate_zeros k

-- ---- all places moved up

-- the blocks moved up by one place, and the last place cleared
pub moved_up : (l : List ℕ) (i : ℕ) → length l ≡ suc i → set (copy_within l 1 (length l) 0) i 0 ≡ drop 1 l ++ 0 ∷ []
moved_up l i h =
    let d = length-drop 1 l in
    let e : length l - 1 ≡ i = omega arith in
    let z : 0 + i ≡ i = omega arith in
    ap (λ (k : ℕ). set (take k (drop 1 l) ++ drop (0 + k) l) i 0) e
    ∙ ap₂ (λ (x : List ℕ) (k : ℕ). set (x ++ drop k l) i 0) (take_all i (drop 1 l) (omega arith)) z
    ∙ ap (λ (x : List ℕ). set (drop 1 l ++ x) i 0) (drop-cons l i 0 (omega arith))
    ∙ set_at (drop 1 l) (get_or l i 0) (drop (suc i) l) 0 i (omega arith)
    ∙ ap (λ (x : List ℕ). drop 1 l ++ 0 ∷ x) (drop_of_length-le l {i = suc i} (omega arith))
