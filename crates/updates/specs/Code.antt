-- Definitions that only the code's contracts and proofs use; no call's meaning rests on them.
pub mod Staged
pub mod Made
