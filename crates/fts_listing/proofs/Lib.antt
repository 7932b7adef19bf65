pub mod One
pub mod Born
