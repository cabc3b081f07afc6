pub mod Cells
pub mod Drawn
pub mod Filled
pub mod Makes
pub mod Meaning
pub mod Sizes
