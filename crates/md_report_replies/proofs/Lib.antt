pub mod Apart
pub mod PartNumbers
pub mod Unpacked
pub mod Placed
pub mod Listed
