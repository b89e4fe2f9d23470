pub mod OneResult
