pub mod walking
pub mod charges
pub mod changes
pub mod answers
pub mod refusals
