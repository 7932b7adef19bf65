pub mod Payload
pub mod Building
pub mod Reading
pub mod Seen
pub mod Grammar
pub mod DecodeError
pub mod Measure
