pub mod Choice
pub mod Occurrences
pub mod Selected
pub mod Words
pub mod Pointers
pub mod Memory
pub mod CellWrites
