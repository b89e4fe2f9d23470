pub mod Answers
pub mod Followed
pub mod Running
pub mod Demands
pub mod Files
pub mod Stored
pub mod Burst
