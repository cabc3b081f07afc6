pub mod Counts
pub mod Deciding
pub mod OneAnswer
pub mod Records
pub mod Refusals
