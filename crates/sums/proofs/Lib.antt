pub mod WordBits
pub mod RowSums
pub mod Lying
pub mod StoredSums
pub mod Apart
pub mod Neighbours
pub mod Doubt
