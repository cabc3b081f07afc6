pub mod Blocking
pub mod OurLoad
pub mod Verdicts
pub mod Single
pub mod Secrecy
