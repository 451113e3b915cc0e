pub mod NewCells
pub mod Numbering
pub mod Code
