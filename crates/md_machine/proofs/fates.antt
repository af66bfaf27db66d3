pub mod Knowing
pub mod Decidedness
