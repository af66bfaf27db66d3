pub mod Lookups
pub mod Looks
pub mod Looking
pub mod AtFront
pub mod FrontLooks
pub mod Lags
pub mod Found
