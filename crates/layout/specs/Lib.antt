pub mod Layout
pub mod Refusal
pub mod Reason
pub mod Site
