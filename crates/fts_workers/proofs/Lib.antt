pub mod Making
pub mod Worse
pub mod OneRound
pub mod Conversing
pub mod Working
pub mod Settling
pub mod Ending
pub mod Still
