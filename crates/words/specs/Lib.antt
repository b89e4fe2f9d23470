pub mod Answers
pub mod Layouts
pub mod Records
pub mod Files
