-- The pairs of a tree in order, as a list and as a table.
pub mod EntriesLookup
pub mod EntriesRising
pub mod EveryPair
pub mod Keys
pub mod PairLaws
pub mod Shown
