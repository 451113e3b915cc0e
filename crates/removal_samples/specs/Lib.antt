pub mod Pinned
pub mod Refusals
pub mod Kept
pub mod Embedded
