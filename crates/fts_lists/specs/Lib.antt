pub mod Ids
pub mod State
pub mod Merging
