-- Each rung answers its number exactly for its reason, and a ladder the first that applies. Assumes nothing.
use Prim.Native.Nat.{ℕ, zero, suc, ◌≤◌, ◌<◌}
use mathlib.Core.Bool.{Bool, true, false, not, ◌&&◌}
use mathlib.Core.Path.{◌≡◌, refl, sym, subst, ◌∙◌}
use mathlib.Core.List.{List, [], ◌∷◌, ◌++◌}
use mathlib.Core.Logic.{◌⊎◌, inl, inr, ⊎_elim}
use native.Mathlib.Decide.{ℕ_discrete}
use native.Mathlib.Nat.{lt_of_not-le}
use native.Mathlib.Omega.{arith}
use borrow.Author.Tests.{eqb-true, eqb-false, ltb-true, ltb-false}
use lib.Dec.{T, eqb, ltb}
use Rattle.ground.specs.Ladder.{◌when◌else◌, ◌then◌}
use Rattle.ground.specs.Rules.{Rule, FirstOf}
use Rattle.ground.proofs.Bools.{right_part}
use Rattle.ground.proofs.Told.{Told, holds, fails}

-- ---- a rung

-- the rung of a rule: its number where its reason holds, and else 0
abbrev pub Rung : Rule → ℕ → Type 0
Rung rule value = (rule.reason × (value ≡ rule.number)) ⊎ ((rule.reason → ⊥) × (value ≡ 0))

pub rung_test : (rule : Rule) (t : Bool) → (t ≡ true → rule.reason) → (t ≡ false → rule.reason → ⊥) → Rung rule (rule.number when t else 0)
rung_test rule true when_true when_false = inl (when_true refl, refl)
rung_test rule false when_true when_false = inr (when_false refl, refl)

pub rung_tests : (rule : Rule) (t u : Bool)
    → (t ≡ true → rule.reason)
    → (u ≡ true → rule.reason)
    → (t ≡ false → u ≡ false → rule.reason → ⊥)
    → Rung rule (rule.number when t else rule.number when u else 0)
rung_tests rule true u when_true also when_false = inl (when_true refl, refl)
rung_tests rule false u when_true also when_false = rung_test rule u also (when_false refl)

-- a rule whose reason is that one number is below another
pub rung_below : (rule : Rule) (low high : ℕ) → (low < high → rule.reason) → (rule.reason → low < high)
    → Rung rule (rule.number when ltb low high else 0)
rung_below rule low high make take =
    rung_test rule (ltb low high) (λ e. make (ltb-true low high e)) (λ e r. let l = take r in let m = ltb-false low high e in omega arith)

-- a rule whose reason is that a number is neither 1 nor 2
pub rung_neither : (rule : Rule) (n : ℕ) → ((n ≡ 1 → ⊥) × (n ≡ 2 → ⊥) → rule.reason) → (rule.reason → (n ≡ 1 → ⊥) × (n ≡ 2 → ⊥))
    → Rung rule (rule.number when eqb n 0 else rule.number when ltb 2 n else 0)
rung_neither rule n make take =
    rung_tests rule (eqb n 0) (ltb 2 n) (λ e. make (let z = eqb-true n 0 e in (λ q. omega arith, λ q. omega arith)))
    (λ e. make (let z = ltb-true 2 n e in (λ q. omega arith, λ q. omega arith)))
    (λ e f r. let l = ltb-false 2 n f in omega (arith, eqb-false n 0 e, (take r).0, (take r).1))

-- two tests that both hold for the rule's reason
pub rung_both : (rule : Rule) {t u : Bool} {P Q : Type 0} → Told P t → Told Q u
    → ((P → ⊥) → (Q → ⊥) → rule.reason)
    → (rule.reason → (P → ⊥) × (Q → ⊥))
    → Rung rule (rule.number when t && u else 0)
rung_both rule (holds p) q make split = inr (λ r. (split r).0 p, refl)
rung_both rule (fails p) (holds q) make split = inr (λ r. (split r).1 q, refl)
rung_both rule (fails p) (fails q) make split = inl (make p q, refl)

-- ---- a ladder

-- no rule has the number 0
abbrev pub numbered? : List Rule → Bool
numbered? [] = true
numbered? (rule ∷ rules) = not (eqb rule.number 0) && numbered? rules

first_numbered : (n : ℕ) (b : Bool) → T (not (eqb n 0) && b) → n ≡ 0 → ⊥
first_numbered n b t z = subst (λ (m : ℕ). T (not (eqb m 0) && b)) z t

-- a refusal stands, whatever comes later
pub then_first : (number later : ℕ) → (number ≡ 0 → ⊥) → number then later ≡ number
then_first zero later ne = absurd (ne refl)
then_first (suc number) later ne = refl

pub then_assoc : (a b c : ℕ) → (a then b) then c ≡ a then (b then c)
then_assoc zero b c = refl
then_assoc (suc a) b c = refl

-- nothing is refused: neither the first nor the later
pub then_zero : (number later : ℕ) → number then later ≡ 0 → (number ≡ 0) × (later ≡ 0)
then_zero zero later e = (refl, e)
then_zero (suc number) later e = absurd (omega arith)

-- two ladders, one after the other, are the ladder of both lists of rules
pub first_then : (rules more : List Rule) (number later : ℕ)
    → T (numbered? rules)
    → FirstOf rules number
    → FirstOf more later
    → FirstOf (rules ++ more) (number then later)
first_then [] more number later t first rest = rw first rest
first_then (one ∷ rules) more number later t first rest =
    ⊎_elim
    (λ r. inl (r.0, then_first number later (λ z. first_numbered one.number (numbered? rules) t (sym r.1 ∙ z)) ∙ r.1))
    (λ r. inr (r.0, first_then rules more number later (right_part (not (eqb one.number 0)) (numbered? rules) t) r.1 rest))
    first

-- one rung more at the end of a ladder
pub first_more : (rules : List Rule) (rule : Rule) (number later : ℕ)
    → T (numbered? rules)
    → FirstOf rules number
    → Rung rule later
    → FirstOf (rules ++ rule ∷ []) (number then later)
first_more rules rule number later t first rung = first_then rules (rule ∷ []) number later t first rung

-- one rung more in front, whose test fails for the rule's reason
pub first_told : (rule : Rule) (rules : List Rule) (later : ℕ) {t : Bool} → Told rule.reason t → FirstOf rules later
    → FirstOf (rule ∷ rules) (rule.number when not t else later)
first_told rule rules later (holds p) first = inl (p, refl)
first_told rule rules later (fails p) first = inr (p, first)

-- where a rung answers 0 its reason does not hold
pub rung_passed : (rule : Rule) (number : ℕ) → (rule.number ≡ 0 → ⊥) → Rung rule number → number ≡ 0 → rule.reason → ⊥
rung_passed rule number ne rung e = ⊎_elim (λ r h. ne (sym r.1 ∙ e)) (λ r. r.0) rung

-- one rung more in front of a ladder
pub first_front : (rule : Rule) (rules : List Rule) (number later : ℕ) → (rule.number ≡ 0 → ⊥) → Rung rule number → FirstOf rules later
    → FirstOf (rule ∷ rules) (number then later)
first_front rule rules number later ne r first =
    ⊎_elim
    (λ w. inl (w.0, then_first number later (λ z. ne (sym w.1 ∙ z)) ∙ w.1))
    (λ w. inr (w.0, rw w.1 first))
    r

-- ---- what holds where nothing is refused

pub test_passed : (number : ℕ) (t : Bool) → suc number when t else 0 ≡ 0 → t ≡ false
test_passed number true e = absurd (omega arith)
test_passed number false e = refl

pub not_zero : (n : ℕ) → (n ≡ 0 → ⊥) → 1 ≤ n
not_zero n h = omega (arith, h)

pub not_above : (top n : ℕ) → (top < n → ⊥) → n ≤ top
not_above top n h = let l = lt_of_not-le h in omega arith

pub one_or_two : (n : ℕ) → ((n ≡ 1 → ⊥) × (n ≡ 2 → ⊥) → ⊥) → (n ≡ 1) ⊎ (n ≡ 2)
one_or_two zero h = absurd (h (λ e. omega arith, λ e. omega arith))
one_or_two (suc zero) h = inl refl
one_or_two (suc (suc zero)) h = inr refl
one_or_two (suc (suc (suc n))) h = absurd (h (λ e. omega arith, λ e. omega arith))

pub not_other : (n m : ℕ) → ((n ≡ m → ⊥) → ⊥) → n ≡ m
not_other n m h = elim (ℕ_discrete n m) [
  | yes e ↦ e
  | no ne ↦ absurd (h ne)
]
