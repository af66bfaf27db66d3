mod First
mod Trails
mod Slots
pub mod Looking
mod Inserted
mod Entering
mod Statuses
mod Puts
mod Shares
