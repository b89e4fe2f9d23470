-- A lane is one bit of every row of a block. Rows are numbered from 1; m rows stand before the last, which is row m + 1.
-- The sum is the exclusive or of the numbers of all rows except the last that hold a one.
-- The parity is the count of ones over all rows, odd or even. A lane is valid if its sum is 0 and its parity even. Assumes nothing.
use Rattle.std.specs.Prelude.{ℕ, zero, suc, ◌+◌, Bool, false, ◌≡◌}
use Rattle.std.specs.Int.Bits.{bit_xor}
use Rattle.lane.specs.Bit.{bit, ◌⊕◌, pick}

-- which rows hold a one, by their numbers
abbrev pub Lane : Type 0
Lane = ℕ → Bool

-- the exclusive or of the numbers of those of the rows 1 to m that hold a one
unfoldable pub sum : ℕ → Lane → ℕ
sum zero f = zero
sum (suc m) f = bit_xor (sum m f) (pick (f (suc m)) (suc m))

-- how many of the rows 1 to n hold a one
unfoldable pub count : ℕ → Lane → ℕ
count zero f = zero
count (suc n) f = count n f + pick (f (suc n)) 1

-- is the count of ones of the rows 1 to n odd
abbrev pub odd : ℕ → Lane → Bool
odd n f = bit 0 (count n f)

pub record Valid (m : ℕ) (f : Lane) : Type 0 where
  pub sum_zero : sum m f ≡ 0
  pub even : odd (suc m) f ≡ false

-- where two lanes differ
abbrev pub diff : Lane → Lane → Lane
diff f g p = f p ⊕ g p

-- in how many rows two lanes differ
abbrev pub apart : ℕ → Lane → Lane → ℕ
apart m f g = count (suc m) (diff f g)
