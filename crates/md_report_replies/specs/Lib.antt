pub mod Replies
pub mod Rooms
pub mod Packed
