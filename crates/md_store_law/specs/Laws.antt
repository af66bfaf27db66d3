-- What follows from the definitions beside this folder, up to the laws that the theory cites. Nothing here is believed:
-- it is proved.
pub mod Nodes
pub mod ListChanges
pub mod QueueChanges
pub mod RisingBuckets
pub mod RisingQueues
pub mod StoreLaws
