-- The code of a build makes in the stage what the definition says.
pub mod StagedBuild
pub mod StagedCell
pub mod StagedChains
pub mod StagedDescent
pub mod StagedPrefixes
pub mod StagedRows
pub mod StagedSparse
pub mod StagedSplitOf
pub mod StagedSplits
