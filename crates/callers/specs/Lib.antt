pub mod Handing
pub mod Demands
pub mod Files
pub mod Stored
pub mod Burst
