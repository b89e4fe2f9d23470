-- One of two things by a number: refusals are numbered, and 0 is no refusal. Assumes nothing.
use Rattle.std.specs.Prelude.{ℕ, zero, suc}

-- the first where the number is 0, else the second
abbrev pub if_zero : {A : Type 0} → ℕ → A → A → A
if_zero zero a b = a
if_zero (suc n) a b = b
