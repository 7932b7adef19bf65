pub mod FaultCounts
pub mod State
pub mod Fault
pub mod Running
pub mod Crash
pub mod Step
pub mod Right
pub mod Answers
