pub mod Fronts
pub mod Bytes
pub mod Quotes
pub mod Tokens
pub mod Strings
pub mod Begun
pub mod Faults
pub mod Readings
pub mod Blanks
pub mod Tables
pub mod Reached
pub mod Written
pub mod Places
pub mod Laws
pub mod Single
pub mod Sessions
mod WorkedRows
