pub mod Contents
pub mod Crash
pub mod Device
pub mod Memory
pub mod Moments
pub mod Replay
pub mod ReplayLaws
