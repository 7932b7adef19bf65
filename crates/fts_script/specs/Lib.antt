pub mod Script
pub mod Reading
pub mod Sessions
pub mod Group
pub mod Merge
