-- The first of a list of rules that applies, where a number may stand twice: each number is answered exactly when it is given.
-- Assumes nothing.
use Prim.Native.Nat.{ℕ}
use mathlib.Core.Bool.{not}
use mathlib.Core.Path.{◌≡◌, sym, subst, ◌∙◌}
use mathlib.Core.List.{List, [], ◌∷◌}
use mathlib.Core.Logic.{inl, inr, ⊎_elim, ◌↔◌}
use lib.Dec.{T, eqb}
use Rattle.ground.specs.Rules.{Rule, FirstOf, NoneOf, FirstGiven, InOrder}
use Rattle.ground.proofs.Bools.{left_part, right_part}
use Rattle.ground.proofs.Ladder.{numbered?}

first_some : (rule : Rule) (rules : List Rule) → T (numbered? (rule ∷ rules)) → rule.number ≡ 0 → ⊥
first_some rule rules t z =
    subst (λ (n : ℕ). T (not (eqb n 0))) z (left_part (not (eqb rule.number 0)) (numbered? rules) t)

rest_some : (rule : Rule) (rules : List Rule) → T (numbered? (rule ∷ rules)) → T (numbered? rules)
rest_some rule rules t = right_part (not (eqb rule.number 0)) (numbered? rules) t

-- a number that is given is not 0
pub given_some : (rules : List Rule) (number : ℕ) → T (numbered? rules) → FirstGiven number rules → number ≡ 0 → ⊥
given_some [] number t g z = g
given_some (rule ∷ rules) number t g z =
    ⊎_elim (λ r. first_some rule rules t (sym r.1 ∙ z)) (λ r. given_some rules number (rest_some rule rules t) r.1 z) g

module _ (answer number : ℕ) where
  first_given : (rules : List Rule) → FirstOf rules answer → (number ≡ 0 → ⊥) → answer ≡ number → FirstGiven number rules
  first_given [] first ne e = ne (sym e ∙ first)
  first_given (rule ∷ rules) first ne e =
      ⊎_elim (λ r. inl (r.0, sym e ∙ r.1)) (λ r. inr (r.0, first_given rules r.1 ne e)) first

  pub given_first : (rules : List Rule) → FirstOf rules answer → FirstGiven number rules → answer ≡ number
  given_first [] first g = absurd g
  given_first (rule ∷ rules) first g =
      ⊎_elim
      (λ r. ⊎_elim (λ q. r.1 ∙ sym q.1) (λ q. absurd (q.0 r.0)) g)
      (λ r. ⊎_elim (λ q. absurd (r.0 q.0)) (λ q. given_first rules r.1 q.1) g)
      first

none_first : (rules : List Rule) (answer : ℕ) → T (numbered? rules) → FirstOf rules answer → (answer ≡ 0) ↔ NoneOf rules
none_first [] answer t first = (λ e. tt, λ h. first)
none_first (rule ∷ rules) answer t first =
    let rest = none_first rules answer (rest_some rule rules t) in (
      λ e. ⊎_elim (λ r. absurd (first_some rule rules t (sym r.1 ∙ e))) (λ r. (r.0, (rest r.1).0 e)) first,
      λ h. ⊎_elim (λ r. absurd (h.0 r.0)) (λ r. (rest r.1).1 h.1) first,
    )

pub in_order : (rules : List Rule) (answer : ℕ) → T (numbered? rules) → FirstOf rules answer → InOrder rules answer
in_order rules answer t first =
    record {
      exactly = λ number ne. (first_given answer number rules first ne, given_first answer number rules first);
      accepted = none_first rules answer t first;
    }
