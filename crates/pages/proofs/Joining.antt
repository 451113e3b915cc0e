-- Pages one after the other: what is left after the last key of one, and that pages of any sizes join.
pub mod Values
pub mod AfterLast
pub mod PageStep
pub mod Join
pub mod OnePage
