pub mod Certificates
pub mod Lanes
pub mod Promises
