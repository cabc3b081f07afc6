pub mod Numbers
pub mod Pieces
pub mod Unread
