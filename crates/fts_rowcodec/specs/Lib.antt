pub mod Payload
pub mod DecodeError
pub mod Grammar
pub mod Reading
