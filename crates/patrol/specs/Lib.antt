pub mod Handed
pub mod Format
pub mod Ask
pub mod Turn
pub mod Numbers
pub mod Reason
pub mod Inner
