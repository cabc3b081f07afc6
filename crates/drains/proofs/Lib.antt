mod Advancing
pub mod Draining
mod Homeward
pub mod Secrecy
mod Single
pub mod Standing
mod Steps
mod Sweeping
mod Walking
