mod Sorting
mod Lowering
mod RowWords
mod Bounds
mod Runs
mod Keys
pub mod Found
pub mod Births
pub mod Adding
pub mod Gathering
pub mod Commits
pub mod Syncing
pub mod Restoring
pub mod Gapless
pub mod Walks
pub mod Listings
pub mod Sizes
pub mod Made
pub mod Newest
