pub mod Ascending
pub mod Passing
pub mod Uniting
pub mod Taken
pub mod Marking
