pub mod Checks
pub mod Words
