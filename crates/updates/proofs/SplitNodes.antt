-- Splits made and copied.
pub mod SplitBound
pub mod SplitCells
pub mod SplitCopied
pub mod SplitOf
pub mod SplitRows
