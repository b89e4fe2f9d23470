pub mod Bit
pub mod Lane
pub mod Decision
pub mod Rows
pub mod Encoded
