-- A child set at NONE or at a chain.
pub mod Chains
pub mod ChainSet
