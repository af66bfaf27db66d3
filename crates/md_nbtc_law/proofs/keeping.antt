pub mod Mapping
pub mod Keeping
pub mod Reslotted
pub mod Kept
pub mod Causes
