pub mod Stalled
pub mod Meeting
pub mod Inserting
