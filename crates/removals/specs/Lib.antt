pub mod RisingCell
pub mod SplitLeft
pub mod LoseChild
pub mod Removal
pub mod Code
