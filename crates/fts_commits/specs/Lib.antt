pub mod Text
pub mod Refusal
pub mod Commit
pub mod Turn
pub mod NewText
pub mod Fits
