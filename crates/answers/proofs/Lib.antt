mod Agreeing
mod Begun
mod Concluding
pub mod Cut
mod Early
mod Lines
mod OneResult
mod OneText
mod Only
mod Rows
mod Rulings
mod Studies
