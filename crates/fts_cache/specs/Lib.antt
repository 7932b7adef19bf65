pub mod Document
pub mod Arena
pub mod Words
pub mod Cache
pub mod Kept
pub mod Sorted
