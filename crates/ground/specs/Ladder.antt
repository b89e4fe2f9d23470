-- Refusals have numbers and an order, and the first that applies wins; 0 is no refusal. Assumes nothing.
use Rattle.std.specs.Prelude.{ℕ, zero, suc, Bool, true, false}

infixr 6 ◌when◌else◌
-- a rung: the number where its test holds, and else another
abbrev pub ◌when◌else◌ : ℕ → Bool → ℕ → ℕ
number when true else other = number
number when false else other = other

infixr 5 ◌then◌
-- the first of two refusals that applies
abbrev pub ◌then◌ : ℕ → ℕ → ℕ
zero then later = later
suc number then later = suc number
