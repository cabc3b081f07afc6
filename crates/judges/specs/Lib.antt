pub mod Judgements
pub mod Judges
pub mod Searches
