pub mod Calls
pub mod Visits
pub mod Numbers
pub mod Promises
pub mod Unchanged
pub mod Reasons
