-- A fixed list of the data rows of a shape: rising, without powers of two, and complete. Assumes nothing.
use Rattle.std.specs.Prelude.{ℕ, ◌<◌, ◌≡◌, List, length, get_or}
use Rattle.lane.specs.Rows.{DataRow, Rising}
use Rattle.shape.specs.declared.Shape.{Shape}
use Rattle.shape.specs.Shape.{before, data_rows_of}

pub record DataTable (shape : Shape) (table : List ℕ) : Type 0 where
  pub is : table ≡ data_rows_of shape
  pub rising : Rising table
  -- each entry is a row before the last, its number no power of two
  pub rows : (k : ℕ) → k < length table → DataRow (before shape) (get_or table k 0)
  pub complete : (p : ℕ) → DataRow (before shape) p → (k : ℕ) × (k < length table) × (get_or table k 0 ≡ p)
