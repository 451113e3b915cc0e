-- The walk of a page: the pairs below a node and after a key, and each way through the code.
pub mod Below
pub mod AfterKey
pub mod KnownSplit
pub mod KnownNode
pub mod WalkParts
pub mod WalkSteps
pub mod RunSteps
pub mod AfterSteps
