pub mod ChangeSteps
pub mod PageSteps
pub mod Proved
