pub mod Complete
pub mod Unreadable
pub mod Unread
pub mod Stopped
pub mod Asked
pub mod Ran
pub mod Kept
