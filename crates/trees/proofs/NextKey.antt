-- The next key.
pub mod Next
pub mod NextAnswers
pub mod NextParts
pub mod NextSteps
pub mod NextWalk
pub mod NextWritten
