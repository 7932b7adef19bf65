pub mod Given
pub mod Following
pub mod Near
pub mod Noting
pub mod Seeking
pub mod Inside
pub mod Ahead
pub mod Places
