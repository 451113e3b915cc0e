-- What follows from the definitions, and the ways through the code.
pub mod NamedKinds
pub mod NumberSteps
pub mod EveryChoice
pub mod Judged
pub mod NumbersLaw
pub mod UnusedLimits
pub mod Proved
