-- Definitions that only the code's contracts and proofs use; no call's meaning rests on them.
pub mod Coded
pub mod Least
pub mod LeastChild
pub mod RisingPointers
pub mod Step
pub mod Words
pub mod Covered
pub mod Cells
