-- The child step, the least child and the value at a node, way by way through the code.
pub mod FirstStep
pub mod LeastWays
pub mod PrefixSteps
pub mod Rest
pub mod StepRead
pub mod StepWays
pub mod ValueWays
pub mod WordRows
pub mod WordChains
