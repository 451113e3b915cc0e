-- Definitions that only the code's contracts and proofs use; no call's meaning rests on them.
pub mod Coded
pub mod NextWalk
pub mod Parts
pub mod Visit
