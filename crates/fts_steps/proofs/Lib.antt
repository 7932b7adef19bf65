pub mod Growing
pub mod Leaving
pub mod Adding
pub mod Faults
pub mod Making
pub mod FaultCounts
