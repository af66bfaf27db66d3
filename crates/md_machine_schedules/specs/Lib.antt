pub mod Walk
pub mod Field
pub mod Clearing
pub mod Transactions
pub mod Schedules
pub mod Unlinking
