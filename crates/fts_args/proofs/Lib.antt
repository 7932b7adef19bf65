pub mod Described
pub mod Reading
pub mod Taken
mod WorkedRows
pub mod One
