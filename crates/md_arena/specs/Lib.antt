pub mod Left
pub mod Taking
pub mod Twice
