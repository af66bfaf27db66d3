pub mod Owners
pub mod Places
pub mod Words
pub mod Counted
