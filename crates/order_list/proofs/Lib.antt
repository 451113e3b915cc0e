pub mod AllWords
pub mod Listed
pub mod Search
pub mod Proved
