-- The sum of the values of a function. Assumes nothing.
use Rattle.std.specs.Prelude.{ℕ, zero, suc, ◌+◌}

-- the sum of the n values f 0, f 1, ..
unfoldable pub total : ℕ → (ℕ → ℕ) → ℕ
total zero f = zero
total (suc n) f = total n f + f n
