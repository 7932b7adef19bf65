pub mod Noting
pub mod Contents
pub mod Recording
pub mod Torn
pub mod Changing
pub mod Picking
pub mod Runs
