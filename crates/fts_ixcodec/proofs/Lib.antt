pub mod Loop
pub mod ReadWords
pub mod ReadLists
pub mod Walks
pub mod Nodes
pub mod Places
pub mod One
pub mod Entries
pub mod Forms
pub mod Batches
mod WorkedRows
