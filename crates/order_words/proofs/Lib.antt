pub mod Inserted
pub mod Room
pub mod Valid
pub mod Coding
pub mod Rising
pub mod Steps
pub mod Proved
