pub mod View
pub mod Ahead
pub mod Found
pub mod Built
pub mod Refused
pub mod Seen
