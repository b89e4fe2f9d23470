-- A run of stores: the value `v k` at the place `f k`, for each k below n, in order. Assumes nothing.
use Rattle.std.specs.Prelude.{ℕ, zero, suc, List, set}

unfoldable pub stores : List ℕ → (ℕ → ℕ) → (ℕ → ℕ) → ℕ → List ℕ
stores d f v zero = d
stores d f v (suc n) = set (stores d f v n) (f n) (v n)
