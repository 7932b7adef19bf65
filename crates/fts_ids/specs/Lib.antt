pub mod Ids
pub mod Union
pub mod Marks
