pub mod StoredRead
pub mod ReadSets
pub mod ReadMore
pub mod Noted
pub mod Recording
pub mod Stopping
