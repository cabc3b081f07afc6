pub mod Counts
mod Steps
pub mod Laws
pub mod Numerals
