mod FirstNumbers
pub mod Copies
mod Letters
pub mod LineByLine
pub mod OneAnswer
pub mod OneLine
mod OneSaying
mod Rewritten
mod Written
