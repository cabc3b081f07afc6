pub mod Cases
pub mod Telling
pub mod Worked
