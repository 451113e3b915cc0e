-- The steps to `BuildZeros`.
pub mod Uses
pub mod Known
pub mod SplitZeros
pub mod NodeZeros
pub mod PrefixZeros
pub mod Junk
