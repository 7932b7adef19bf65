pub mod Number
pub mod StopSet
