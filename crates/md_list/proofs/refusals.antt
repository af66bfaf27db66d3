pub mod Stops
pub mod Would
pub mod Refused
