pub mod Drains
pub mod Emptying
pub mod Faults
pub mod Orders
