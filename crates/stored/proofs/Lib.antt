pub mod Forms
pub mod Groups
