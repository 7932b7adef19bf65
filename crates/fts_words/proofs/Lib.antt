pub mod RunLemmas
pub mod WordLemmas
pub mod PlacedLemmas
mod WorkedRows
