pub mod Made
pub mod Fed
pub mod Planned
pub mod Feeding
