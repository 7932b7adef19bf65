pub mod Queues
pub mod Table
pub mod Documents
pub mod Arena
pub mod Ids
pub mod Notes
pub mod Leaving
pub mod Rooms
pub mod Promises
pub mod Shown
pub mod Numbers
pub mod Rows
mod Used
mod Listed
mod Prefixed
