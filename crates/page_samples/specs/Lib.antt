pub mod Pinned
pub mod Sizes
pub mod Refusals
pub mod Embedded
