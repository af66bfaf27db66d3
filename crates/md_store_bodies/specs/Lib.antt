pub mod Store
pub mod Laws
pub mod Counted
pub mod Running
