pub mod Faults
pub mod Rendering
pub mod Writes
