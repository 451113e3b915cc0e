pub mod PageNumbers
pub mod Code
