pub mod Arriving
pub mod Distances
pub mod Routes
