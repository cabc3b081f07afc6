pub mod Answers
pub mod ReaderView
pub mod Rewrites
pub mod Says
