pub mod Counting
pub mod Agreeing
pub mod Low
pub mod FirstAttempts
