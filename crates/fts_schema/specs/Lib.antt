pub mod Listing
pub mod Rows
pub mod Reply
pub mod Summary
