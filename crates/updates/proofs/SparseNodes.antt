-- A child set at a sparse node, and two children as one.
pub mod Pairs
pub mod SparseCells
pub mod SparseSet
