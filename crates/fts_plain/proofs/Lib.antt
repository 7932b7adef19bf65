pub mod Walking
pub mod Listing
pub mod Joining
pub mod Scanning
pub mod Indexing
