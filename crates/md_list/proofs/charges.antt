pub mod Charging
pub mod Adding
pub mod Charged
pub mod ChargedWalk
