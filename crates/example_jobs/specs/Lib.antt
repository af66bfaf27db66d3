pub mod Moves
pub mod Jobs
pub mod Shifts
