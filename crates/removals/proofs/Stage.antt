-- The code of a removal's build makes in the stage what the definition says.
pub mod KeptNodes
pub mod KeptSteps
pub mod LeftDescent
pub mod LostChildren
pub mod RisingPuts
pub mod SplitLefts
