mod Adding
mod Adds
pub mod ByRecord
pub mod Limits
mod Misfits
pub mod OneAnswer
mod Pairs
