pub mod Numbers
pub mod Spelled
pub mod Fields
pub mod Faults
pub mod One
pub mod Loop
pub mod Puts
