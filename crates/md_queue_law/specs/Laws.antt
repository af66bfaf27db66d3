-- What follows from the definitions beside this folder, up to the laws that the theory cites. Nothing here is believed:
-- it is proved.
pub mod Pigeonhole
pub mod Words
pub mod Walk
pub mod Agreement
pub mod Lists
pub mod Named
pub mod Following
pub mod RootChanges
pub mod Heads
pub mod Appending
pub mod Looking
pub mod Certifying
pub mod Frames
pub mod RisingRanks
pub mod RisingCertificates
pub mod QueueLaws
