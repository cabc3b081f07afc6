pub mod Arrival
pub mod Building
pub mod Limits
pub mod Ports
pub mod Rings
