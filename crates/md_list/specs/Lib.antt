pub mod Walking
pub mod Written
pub mod Charged
pub mod Operations
pub mod Refusals
