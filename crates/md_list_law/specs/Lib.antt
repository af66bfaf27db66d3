pub mod Walk
pub mod ListShape
pub mod Rising
pub mod Gaps
pub mod Certificates
pub mod HasLists
pub mod OneList
pub mod Rows
