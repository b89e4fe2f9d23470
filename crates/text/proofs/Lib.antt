pub mod Decimal
pub mod Pages
pub mod OneResult
