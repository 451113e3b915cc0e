pub mod Record
pub mod Page
pub mod Printed
pub mod Tables
pub mod Answers
pub mod Computing
pub mod Examples
pub mod Code
