-- The smaller of two lengths. Assumes nothing.
use Rattle.std.specs.Prelude.{ℕ, min, ◌≡◌}

-- the promise of least
abbrev pub IsLeast : ℕ → ℕ → ℕ → Type 0
IsLeast a b least = least ≡ min a b
