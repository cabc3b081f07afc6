pub mod Judgements
pub mod Judgings
pub mod Prints
pub mod Results
pub mod Rows
