pub mod Joining
pub mod Playing
pub mod Retrying
pub mod Following
pub mod Ending
pub mod Trying
pub mod Lists
