-- `block::coding::data_of` meets its contract: each shape's table is that of its data rows. Assumes nothing.
use Prim.Native.Nat.{ℕ, ◌+◌, ◌*◌, ◌-◌, ◌^◌, ◌≤◌, ◌<◌}
use mathlib.Core.Path.{◌≡◌, refl}
use mathlib.Core.List.{List}
use native.Mathlib.Omega.{arith}
use lib.ListN.{length, get_or}
use Rattle.ground.specs.Stores.{stores}
use Rattle.shape.specs.declared.Shape.{Shape}
use Rattle.shape.specs.Shape.{before}
use Rattle.block.specs.Sums.{CopiesData}
use Rattle.block.specs.DataTables.{DataTable}
use Rattle.block.proofs.DataTables.{data_one_lem, data_two_lem, table_there, table_copied}
use Rattle.block.proofs.coding.data_of.Goals as goal

-- every row is there, and a table of the shape that is told is copied
module _ {shape known : Shape} (told : shape ≡ known) (block : List ℕ) (room : 0 + before shape * 1 < length block)
    {table : List ℕ} (t : DataTable known table) where
  own : DataTable shape table
  own = rw told t

  rows_there : (0 < 2 ^ 32) × (1 < 2 ^ 32) × ((k : ℕ) → k < length table → (1 ≤ get_or table k 0) × (0 + (get_or table k 0 - 1) * 1 < length block))
  rows_there = (omega arith, omega arith, table_there own block 0 1 room table refl)

  copied : (buffer : List ℕ) {after : List ℕ} → after ≡ stores buffer (λ k. k) (λ k. get_or block (0 + (get_or table k 0 - 1) * 1) 0) (length table)
      → CopiesData shape block 0 1 buffer after
  copied buffer e = table_copied own block 0 1 room table buffer e refl

pub returns-then-block-rows : goal.returns-then-block-rows
returns-then-block-rows c = record { there = λ h. absurd (omega (arith, c.rows.ensures, c.if-block-rows.true)); missing = λ no. refl }

pub copy_rows-requires : goal.copy_rows-requires
copy_rows-requires c = rows_there c.in-One.is c.args.block.now (omega (arith, c.rows.ensures)) data_one_lem

pub copy_rows-requires-in-Two : goal.copy_rows-requires-in-Two
copy_rows-requires-in-Two c = rows_there c.in-Two.is c.args.block.now (omega (arith, c.rows.ensures)) data_two_lem

pub returns-in-One : goal.returns-in-One
returns-in-One c = copied c.in-One.is c.args.block.now (omega (arith, c.rows.ensures)) data_one_lem c.args.buffer.now c.copy_rows.ensures

pub returns-in-Two : goal.returns-in-Two
returns-in-Two c = copied c.in-Two.is c.args.block.now (omega (arith, c.rows.ensures)) data_two_lem c.args.buffer.now c.copy_rows-in-Two.ensures
