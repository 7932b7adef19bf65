pub mod Words
pub mod Entry
pub mod Rows
pub mod Batch
pub mod Exact
pub mod Coming
pub mod Pass
