pub mod Reading
pub mod Writing
pub mod Fault
pub mod Fields
pub mod Grammar
