pub mod Listed
pub mod Flips
pub mod Lanes
pub mod Blocks
pub mod Judged
pub mod Data
pub mod DataTables
pub mod Encoding
pub mod ValidBlocks
pub mod Alike
pub mod ByWords
pub mod Verdicts
pub mod Decided
pub mod Told
mod Weights
