-- Sparse nodes: their children, their least child, their rising characters.
pub mod SparseChildren
pub mod SparseLeast
pub mod SparseSteps
pub mod RisingPointers
pub mod Neighbours
