pub mod BigEndian
pub mod Bytes
pub mod Refusal
pub mod Reason
pub mod Header
pub mod Written
pub mod Inner
