pub mod Inside
pub mod Secrecy
