mod OwnParts
pub mod Texts
