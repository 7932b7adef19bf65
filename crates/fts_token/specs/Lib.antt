pub mod Bits
pub mod Bounds
pub mod Chosen
pub mod Left
pub mod Row
