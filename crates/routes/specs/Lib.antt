pub mod Limits
pub mod Outcomes
pub mod Routing
