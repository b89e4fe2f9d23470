-- A table of refusals in plain statements: a number is given exactly when its reason holds and no earlier one does. Assumes nothing.
use Rattle.std.specs.Prelude.{ℕ, ◌≡◌, List, [], ◌∷◌, ◌++◌, ◌⊎◌, ◌↔◌}

-- a line of the table
pub record Rule : Type 1 where
  pub number : ℕ
  pub reason : Type 0

-- the first rule that applies has this number; where none applies the number is 0
abbrev pub FirstOf : List Rule → ℕ → Type 0
FirstOf [] given = given ≡ 0
FirstOf (rule ∷ rest) given = (rule.reason × (given ≡ rule.number)) ⊎ ((rule.reason → ⊥) × FirstOf rest given)

-- none of the rules applies
abbrev pub NoneOf : List Rule → Type 0
NoneOf [] = Unit {0}
NoneOf (rule ∷ rest) = (rule.reason → ⊥) × NoneOf rest

-- a rule's number is given exactly when its reason holds and no earlier rule applies
abbrev pub GivenFor : ℕ → List Rule → Rule → Type 0
GivenFor number earlier rule = (number ≡ rule.number) ↔ (NoneOf earlier × rule.reason)

-- a number that goes by a list of rules
pub record Ruled (rules : List Rule) (number : ℕ) : Type 1 where
  pub exactly : (earlier later : List Rule) (rule : Rule) → earlier ++ rule ∷ later ≡ rules → GivenFor number earlier rule
  pub accepted : (number ≡ 0) ↔ NoneOf rules

-- ---- a table in which a number may stand twice

-- a rule of this number applies, and none before it; the number may have two rules
abbrev pub FirstGiven : ℕ → List Rule → Type 0
FirstGiven number [] = ⊥
FirstGiven number (rule ∷ rest) = (rule.reason × (number ≡ rule.number)) ⊎ ((rule.reason → ⊥) × FirstGiven number rest)

-- each number is answered exactly when it is given, and 0 exactly when no rule applies
pub record InOrder (rules : List Rule) (answer : ℕ) : Type 1 where
  pub exactly : (number : ℕ) → (number ≡ 0 → ⊥) → (answer ≡ number) ↔ FirstGiven number rules
  pub accepted : (answer ≡ 0) ↔ NoneOf rules
