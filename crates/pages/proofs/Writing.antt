-- What a page writes: the bytes of a record, one record after the other, and the answers of the call.
pub mod RecordBytes
pub mod Progress
pub mod PageSteps
