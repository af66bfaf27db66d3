pub mod Bank
pub mod Made
pub mod Journal
