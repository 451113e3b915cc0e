pub mod Choices
pub mod NumberCalls
pub mod Tables
pub mod Examples
pub mod Code
