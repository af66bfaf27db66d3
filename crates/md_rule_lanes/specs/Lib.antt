pub mod LaneSet
pub mod Shares
