pub mod Rows
pub mod LookUps
pub mod Getting
pub mod FoundOn
pub mod Removing
pub mod Inserting
pub mod Replacing
pub mod Answered
