pub mod Named
pub mod Lane
pub mod Block
pub mod Answer
pub mod Refusal
pub mod Reason
pub mod Visit
pub mod Inner
