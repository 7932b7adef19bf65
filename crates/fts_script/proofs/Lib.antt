pub mod Counting
pub mod Shares
pub mod Places
pub mod Putting
