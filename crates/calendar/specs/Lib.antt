pub mod Date
pub mod Correction
pub mod Examples
