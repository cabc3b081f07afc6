pub mod Allowed
pub mod Cleared
pub mod Faults
pub mod Nets
pub mod Rooms
pub mod Secrecy
