-- The check rows are the last row and those whose number is a power of two; the others are the data rows, lowest first. Assumes nothing.
use Rattle.std.specs.Prelude.{ℕ, zero, suc, ◌^◌, ◌≤◌, ◌<◌, Bool, false, not, cond, ◌||◌, ◌≡◌, List, [], ◌∷◌, ◌++◌, eqb, length, get_or}

-- is p one of 1, 2, 4, .. below 2^k
unfoldable pub power? : ℕ → ℕ → Bool
power? zero p = false
power? (suc k) p = power? k p || eqb p (2 ^ k)

-- a data row: one of the rows before the last, its number no power of two
pub record DataRow (m p : ℕ) : Type 0 where
  pub first : 1 ≤ p
  pub last : p ≤ m
  pub no_power : (k : ℕ) → p ≡ 2 ^ k → ⊥

-- a list goes from row to a later row
abbrev pub Rising : List ℕ → Type 0
Rising list = (j k : ℕ) → j < k → k < length list → get_or list j 0 < get_or list k 0

-- those of the rows 1 to n that pass a test, lowest first
unfoldable pub rows_where : (ℕ → Bool) → ℕ → List ℕ
rows_where test zero = []
rows_where test (suc n) = rows_where test n ++ cond (test (suc n)) (suc n ∷ []) []

-- the data rows, where the m rows before the last number below 2^k
abbrev pub data_rows : ℕ → ℕ → List ℕ
data_rows k m = rows_where (λ p. not (power? k p)) m
