pub mod Rows
pub mod Slots
pub mod Plan
pub mod Refusal
