pub mod Digits
pub mod Order
pub mod Extended
pub mod Examples
