pub mod Listing
pub mod Rows
pub mod Parts
pub mod Meaning
pub mod Operands
pub mod Building
pub mod Answering
