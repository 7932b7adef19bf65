pub mod Setting
pub mod Naming
pub mod Executing
pub mod Going
pub mod Changing
pub mod Flushing
pub mod Optimizing
pub mod Bounded
mod WorkedPasses
pub mod Values
pub mod OneSearch
pub mod Searching
pub mod Single
pub mod Rising
pub mod Directly
