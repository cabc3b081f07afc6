pub mod Allowing
mod Bounds
pub mod Certifying
mod Composed
pub mod Costs
mod Emptying
mod LaneCertificates
mod LaneFacts
mod Packets
mod Progress
pub mod Secrecy
pub mod Sides
mod Standing
