-- The bits of a word, and their exclusive or. Assumes nothing.
use Rattle.std.specs.Prelude.{ℕ, zero, suc, ◌/◌, ◌%◌, Bool, true, false, not}

-- is a binary digit a one
abbrev pub set? : ℕ → Bool
set? zero = false
set? (suc d) = true

-- bit i of a word, from the lowest, which is bit 0
unfoldable pub bit : ℕ → ℕ → Bool
bit zero w = set? (w % 2)
bit (suc i) w = bit i (w / 2)

-- the exclusive or of two bits
infixl 30 ◌⊕◌
abbrev pub ◌⊕◌ : Bool → Bool → Bool
false ⊕ b = b
true ⊕ b = not b

-- the number where the bit is a one, and 0 where it is not
abbrev pub pick : Bool → ℕ → ℕ
pick true a = a
pick false a = zero
