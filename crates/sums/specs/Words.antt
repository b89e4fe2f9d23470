-- A block is a list of words, row 1 first. A lane is bit i of every row. Assumes nothing.
use Rattle.std.specs.Prelude.{ℕ, zero, suc, ◌+◌, ◌^◌, Bool, List, get_or}
use Rattle.lane.specs.Bit.{bit, pick}
use Rattle.lane.specs.Lane.{Lane}

-- the word of row p; there is no row 0
abbrev pub row : ℕ → List ℕ → ℕ
row zero block = zero
row (suc j) block = get_or block j 0

-- bit i of every row
abbrev pub lane : ℕ → List ℕ → Lane
lane i block p = bit i (row p block)

-- the number whose bits below n are given
unfoldable pub number : ℕ → (ℕ → Bool) → ℕ
number zero f = zero
number (suc n) f = number n f + pick (f n) (2 ^ n)

-- the word whose 32 bits are given
abbrev pub word : (ℕ → Bool) → ℕ
word f = number 32 f
