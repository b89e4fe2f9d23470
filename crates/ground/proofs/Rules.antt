-- The first of a list of rules that applies: it is one, and each number is given exactly when its reason holds and no earlier one does.
-- Assumes nothing.
use Prim.Native.Nat.{ℕ}
use mathlib.Core.Bool.{Bool, true, not, ◌&&◌}
use mathlib.Core.Path.{◌≡◌, sym, subst, ◌∙◌}
use mathlib.Core.List.{List, [], ◌∷◌, ◌++◌}
use mathlib.Core.Logic.{⊎_elim, ◌↔◌}
use lib.Dec.{T, eqb}
use borrow.Author.Tests.{eq-eqb}
use Rattle.ground.specs.Rules.{Rule, FirstOf, NoneOf, GivenFor, Ruled}
use Rattle.ground.proofs.Bools.{left_part, right_part}

-- ---- rules with numbers of their own

-- no rule has this number
abbrev pub unused? : ℕ → List Rule → Bool
unused? k [] = true
unused? k (rule ∷ rules) = not (eqb k rule.number) && unused? k rules

-- no two rules have the same number, and none has 0
abbrev pub distinct? : List Rule → Bool
distinct? [] = true
distinct? (rule ∷ rules) = not (eqb 0 rule.number) && (unused? rule.number rules && distinct? rules)

other : (k n : ℕ) → T (not (eqb k n)) → n ≡ k → ⊥
other k n t e = subst (λ (b : Bool). T (not b)) (eq-eqb k n (sym e)) t

-- a number that no rule has is not given
not_given : (rules : List Rule) (k n : ℕ) → T (not (eqb 0 k)) → T (unused? k rules) → FirstOf rules n → n ≡ k → ⊥
not_given [] k n some t first e = other 0 k some (sym e ∙ first)
not_given (rule ∷ rules) k n some t first e =
    ⊎_elim
    (λ r. other k rule.number (left_part (not (eqb k rule.number)) (unused? k rules) t) (sym r.1 ∙ e))
    (λ r. not_given rules k n some (right_part (not (eqb k rule.number)) (unused? k rules) t) r.1 e)
    first

unused_in : (earlier later : List Rule) (rule : Rule) (k : ℕ) → T (unused? k (earlier ++ rule ∷ later)) → rule.number ≡ k → ⊥
unused_in [] later rule k t e = other k rule.number (left_part (not (eqb k rule.number)) (unused? k later) t) e
unused_in (one ∷ earlier) later rule k t e =
    unused_in earlier later rule k (right_part (not (eqb k one.number)) (unused? k (earlier ++ rule ∷ later)) t) e

-- the parts of the test
module _ (rule : Rule) (rules : List Rule) (t : T (distinct? (rule ∷ rules))) where
  some : T (not (eqb 0 rule.number))
  some = left_part (not (eqb 0 rule.number)) (unused? rule.number rules && distinct? rules) t

  rest : T (unused? rule.number rules && distinct? rules)
  rest = right_part (not (eqb 0 rule.number)) (unused? rule.number rules && distinct? rules) t

  unlike : T (unused? rule.number rules)
  unlike = left_part (unused? rule.number rules) (distinct? rules) rest

  tail : T (distinct? rules)
  tail = right_part (unused? rule.number rules) (distinct? rules) rest

-- ---- each number, and none

pub given_for : (earlier later : List Rule) (rule : Rule) (n : ℕ)
    → T (distinct? (earlier ++ rule ∷ later))
    → FirstOf (earlier ++ rule ∷ later) n
    → GivenFor n earlier rule
given_for [] later rule n t first = (
  λ e. ⊎_elim (λ r. (tt, r.0)) (λ r. absurd (not_given later rule.number n (some rule later t) (unlike rule later t) r.1 e)) first,
  λ h. ⊎_elim (λ r. r.1) (λ r. absurd (r.0 h.1)) first,
)
given_for (one ∷ earlier) later rule n t first =
    let g = given_for earlier later rule n (tail one (earlier ++ rule ∷ later) t) in (
      λ e.
          ⊎_elim (λ r. absurd (unused_in earlier later rule one.number (unlike one (earlier ++ rule ∷ later) t) (sym e ∙ r.1)))
          (λ r. let q = (g r.1).0 e in ((r.0, q.0), q.1))
          first,
      λ h. ⊎_elim (λ r. absurd (h.0.0 r.0)) (λ r. (g r.1).1 (h.0.1, h.1)) first,
    )

pub none_given : (rules : List Rule) (n : ℕ) → T (distinct? rules) → FirstOf rules n → (n ≡ 0) ↔ NoneOf rules
none_given [] n t first = (λ e. tt, λ h. first)
none_given (rule ∷ rules) n t first =
    let g = none_given rules n (tail rule rules t) in (
      λ e. ⊎_elim (λ r. absurd (other 0 rule.number (some rule rules t) (sym r.1 ∙ e))) (λ r. (r.0, (g r.1).0 e)) first,
      λ h. ⊎_elim (λ r. absurd (h.0 r.0)) (λ r. (g r.1).1 h.1) first,
    )

-- a number that is the first of its rules goes by them
pub ruled : (rules : List Rule) (number : ℕ) → T (distinct? rules) → FirstOf rules number → Ruled rules number
ruled rules number t first =
    record {
      exactly = λ earlier later rule e.
          given_for earlier later rule number (subst (λ (l : List Rule). T (distinct? l)) (sym e) t)
          (subst (λ (l : List Rule). FirstOf l number) (sym e) first);
      accepted = none_given rules number t first;
    }
