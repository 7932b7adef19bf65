pub mod Ascending
pub mod Marks
pub mod Merging
pub mod Passing
