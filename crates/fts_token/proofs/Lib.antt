mod Rows
mod Filtered
mod Held
mod Lanes
mod Bits
mod Joining
mod Blocks
