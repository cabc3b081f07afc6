mod ByLine
mod OnlyReadings
mod OnlyWriting
pub mod Readings
mod Stores
mod Totals
mod WrittenLines
