-- A lent list is refused as the code tests it: row by row, each against those after it. Assumes nothing.
use Prim.Native.Nat.{ℕ, ◌+◌, ◌-◌, ◌≤◌, ◌<◌}
use mathlib.Core.Bool.{Bool, true, false, ◌||◌}
use mathlib.Core.Path.{◌≡◌, refl, sym, ap, ◌∙◌}
use mathlib.Core.List.{List, [], ◌∷◌}
use mathlib.Core.Logic.{by_cases}
use native.Mathlib.Decide.{ℕ_discrete}
use native.Mathlib.Nat.{lt_of_not-le}
use native.Mathlib.Omega.{arith}
use native.Mathlib.Numerals.{add-one}
use lib.Dec.{eqb, ltb}
use lib.ListN.{length, get_or, drop, take}
use lib.Seq.{drop-cons}
use borrow.Author.Tests.{eq-eqb, ne_eqb, eqb-true, eqb-false, le-ltb, lt-ltb}
use Rattle.std.specs.Prelude.{Option}
use Rattle.std.specs.List.{list_any, slice_get}
use Rattle.std.proofs.lemmas.List.{drop_all, take_rest, length-drop}
use Rattle.around.specs.Named.{among?}
use Rattle.around.specs.Refusal.{misnamed?, named_refusal}
use Rattle.around.specs.Inner.{more_rows}

-- a row is among those that are searched for it
pub searched : (r : ℕ) (list : List ℕ) → list_any (λ y. eqb y r) list ≡ among? list r
unfolding among?
searched r [] = refl
searched r (y ∷ list) = rw (← searched r list, turned y r (eqb y r) refl) refl
  where
    turned : (a b : ℕ) (t : Bool) → eqb a b ≡ t → eqb b a ≡ t
    turned a b true e = eq-eqb b a (sym (eqb-true a b e))
    turned a b false e = ne_eqb b a (λ q. eqb-false a b e (sym q))

module _ (last : ℕ) (list : List ℕ) (k : ℕ) (h : k < length list) where
  abbrev row : ℕ
  row = get_or list k 0

  next : misnamed? last (drop k list) ≡ (eqb row 0 || (ltb last row || among? (drop (k + 1) list) row)) || misnamed? last (drop (k + 1) list)
  unfolding misnamed?
  next = rw (add-one, drop-cons list k 0 h) refl

  -- a row that is one of the block's, and is not named again, is passed
  pub row_passed : 1 ≤ row → row ≤ last → list_any (λ y. eqb y row) (drop (k + 1) list) ≡ false
      → misnamed? last (drop k list) ≡ misnamed? last (drop (k + 1) list)
  row_passed low high once =
      next ∙ rw (ne_eqb row 0 (λ z. omega arith), le-ltb last row high, ← searched row (drop (k + 1) list), once) refl

  -- and another is refused
  pub row_outside : (1 ≤ row → row ≤ last → ⊥) → misnamed? last (drop k list) ≡ true
  row_outside out =
      next ∙ by_cases (ℕ_discrete row 0)
      (λ z. rw (eq-eqb row 0 z) refl)
      (λ ne. rw (ne_eqb row 0 ne, lt-ltb last row (lt_of_not-le (λ high. out (omega arith) high))) refl)

  pub row_again : list_any (λ y. eqb y row) (drop (k + 1) list) ≡ true → misnamed? last (drop k list) ≡ true
  row_again again = next ∙ rw (← searched row (drop (k + 1) list), again) (some (eqb row 0) (ltb last row) (misnamed? last (drop (k + 1) list)))
    where
      some : (a b m : Bool) → (a || (b || true)) || m ≡ true
      some true b m = refl
      some false true m = refl
      some false false m = refl

-- past the last row none is left
pub none_left : (last : ℕ) (list : List ℕ) (k : ℕ) → length list ≤ k → misnamed? last (drop k list) ≡ false
unfolding misnamed?
none_left last list k h = rw (drop_all k list h) refl

-- ---- what is refused of the list

pub refused_many : (last : ℕ) (list : List ℕ) → 3 < length list → named_refusal last list ≡ 13
unfolding named_refusal
refused_many last list h = rw (lt-ltb 3 (length list) h) refl

pub refused_row : (last : ℕ) (list : List ℕ) → length list ≤ 3 → misnamed? last list ≡ true → named_refusal last list ≡ 14
unfolding named_refusal
refused_row last list h bad = rw (le-ltb 3 (length list) h, bad) refl

pub refused_none : (last : ℕ) (list : List ℕ) → length list ≤ 3 → misnamed? last list ≡ false → named_refusal last list ≡ 0
unfolding named_refusal
refused_none last list h fine = rw (le-ltb 3 (length list) h, fine) refl

-- ---- the rows that are taken from it

abbrev rest : List ℕ → List ℕ
rest list = take (length list - 1) (drop 1 list)

pub no_row : (list : List ℕ) → length list < 1 → list ≡ []
no_row [] none = refl
no_row (r ∷ list) none = absurd (omega arith)

pub one_row : (list : List ℕ) → 1 ≤ length list → length (rest list) < 1 → list ≡ get_or list 0 0 ∷ []
one_row list some none = by list some (let e : length (rest list) ≡ length list - 1 = ap length (take_rest list 1) ∙ length-drop 1 list in omega arith)
  where
    by : (list : List ℕ) → 1 ≤ length list → length list ≤ 1 → list ≡ get_or list 0 0 ∷ []
    by [] some few = absurd (omega arith)
    by (a ∷ []) some few = refl
    by (a ∷ b ∷ list) some few = absurd (omega arith)

pub some_rows : (list : List ℕ) {third : Option ℕ} → 1 ≤ length list → 1 ≤ length (rest list) → length list ≤ 3 → third ≡ slice_get (rest (rest list)) 0
    → list ≡ more_rows (get_or list 0 0) (get_or (rest list) 0 0) third
some_rows [] some more few e = absurd (omega arith)
some_rows (a ∷ []) some more few e = absurd (omega arith)
some_rows (a ∷ b ∷ []) some more few e = rw e refl
some_rows (a ∷ b ∷ c ∷ []) some more few e = rw e refl
some_rows (a ∷ b ∷ c ∷ d ∷ list) some more few e = absurd (omega arith)
