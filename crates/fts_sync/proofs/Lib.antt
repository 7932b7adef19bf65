pub mod Words
pub mod Until
