pub mod Reading
pub mod Places
pub mod Pairing
mod WorkedRows
pub mod Candidates
pub mod Indexable
