pub mod Line
pub mod Options
pub mod Asked
