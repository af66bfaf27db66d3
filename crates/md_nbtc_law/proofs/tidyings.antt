pub mod Reasons
pub mod PlacedNow
pub mod MayTidy
pub mod Making
pub mod Slots
pub mod Finished
