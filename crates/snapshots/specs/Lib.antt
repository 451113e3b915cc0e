pub mod Snapshots
pub mod Tables
pub mod Computing
pub mod Code
pub mod Examples
