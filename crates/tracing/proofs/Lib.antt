pub mod Positions
pub mod Queueing
pub mod Secrecy
pub mod Tables
