pub mod RowPlaces
pub mod RowHolds
pub mod UsedRowHolds
pub mod Bounds
mod Scheduled
mod EmptyOpens
