pub mod State
pub mod Ending
pub mod Exchanging
pub mod Noting
