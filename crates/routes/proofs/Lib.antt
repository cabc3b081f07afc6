pub mod Needs
pub mod Numbers
pub mod Outcomes
pub mod Pigeonhole
pub mod Walks
pub mod Secrecy
