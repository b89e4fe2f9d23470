-- The shapes' numbers are small: a row's number has seven binary digits, the rows fit a gathered block, and there are two at least. Assumes nothing.
use Prim.Native.Nat.{◌^◌, ◌≤◌, ◌<◌}
use lib.Dec.{lit<, lit≤}
use Rattle.shape.specs.declared.Shape.{Shape}
use Rattle.shape.specs.declared.Shape.TheVariants.{One, Two}
use Rattle.shape.specs.Shape.{before, rows, most_rows}

pub before_small : (shape : Shape) → before shape < 2 ^ 7
before_small One = lit< tt
before_small Two = lit< tt

pub rows_fit : (shape : Shape) → rows shape ≤ most_rows
rows_fit One = lit≤ tt
rows_fit Two = lit≤ tt

pub rows_least : (shape : Shape) → 2 ≤ rows shape
rows_least One = lit≤ tt
rows_least Two = lit≤ tt

pub before_lt : (shape : Shape) → before shape < 72
before_lt One = lit< tt
before_lt Two = lit< tt
