pub mod Table
pub mod Row
pub mod Rules
pub mod Settings
pub mod Limits
