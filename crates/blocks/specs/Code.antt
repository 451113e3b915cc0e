-- Definitions that only the code's contracts and proofs use; no call's meaning rests on them.
pub mod Fits
pub mod Blocks
pub mod Stamps
pub mod Written
