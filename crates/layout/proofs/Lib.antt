pub mod Shapes
pub mod Index
pub mod Ladder
pub mod RowsInside
pub mod Sites
