pub mod Small
pub mod Tree
pub mod Root
pub mod Lookup
pub mod Entries
pub mod EntryAt
pub mod Code
