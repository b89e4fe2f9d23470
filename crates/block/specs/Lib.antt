pub mod Block
pub mod Verdict
pub mod Sums
pub mod Inner
pub mod DataTables
