pub mod Calls
pub mod Faults
pub mod Loads
pub mod Looking
pub mod Runs
