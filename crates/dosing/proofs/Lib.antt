-- What follows from the definitions, and what the functions' proofs share.
pub mod Examples
pub mod FixedVerdict
pub mod Laws
pub mod WholeReadings
pub mod VerdictLaws
mod VerdictSteps
pub mod VerdictTold
pub mod Literals
pub mod MovedDay
pub mod Proved
