-- What dosing means, sentence by sentence of 01.
pub mod Temperature
pub mod Sheet
pub mod Verdict
pub mod Answers
pub mod Tables
pub mod Limits
pub mod Rounding
pub mod Verdicts
pub mod Code
