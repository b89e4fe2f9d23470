pub mod Choice
pub mod Least
pub mod Lists
pub mod Totals
pub mod Stores
pub mod Ladder
pub mod Rules
