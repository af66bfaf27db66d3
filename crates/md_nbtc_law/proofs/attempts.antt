pub mod OwnAfter
pub mod Fronts
pub mod Alone
