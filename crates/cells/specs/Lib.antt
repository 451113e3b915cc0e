pub mod Bytes
pub mod Word
pub mod Memory
pub mod Writes
pub mod Occurrences
pub mod Optional
