pub mod Staying
pub mod Noted
pub mod Critical
pub mod Changing
pub mod UnlinkLater
pub mod FreshNode
