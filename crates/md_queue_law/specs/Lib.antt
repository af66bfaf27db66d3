pub mod QueueShape
pub mod QueueValues
pub mod QueueCertificates
pub mod Rising
pub mod QueueMeaning
pub mod QueueFacts
pub mod Rows
pub mod Laws
