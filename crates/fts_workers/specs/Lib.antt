pub mod Health
pub mod Batches
pub mod Workers
pub mod Settled
