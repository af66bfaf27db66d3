pub mod LowestLanes
pub mod TakenNodes
pub mod KeptNodes
