pub mod RoundTrip
pub mod OneResult
