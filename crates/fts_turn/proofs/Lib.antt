pub mod Lists
pub mod Steps
pub mod Parts
pub mod Words
pub mod Seats
pub mod Closing
pub mod Counting
