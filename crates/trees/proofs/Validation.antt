-- Validation: the tree of a word by kinds of nodes, as cells stamped one after the other.
pub mod ChainTrees
pub mod ChildTrees
pub mod Gathered
pub mod Joins
pub mod Judging
pub mod Reading
pub mod Reordered
pub mod RootCheck
pub mod SparseTrees
pub mod SplitTrees
pub mod Stamping
pub mod Tags
