pub mod World
pub mod Parts
pub mod Core
pub mod Turns
pub mod Lists
pub mod Headline
pub mod Killed
