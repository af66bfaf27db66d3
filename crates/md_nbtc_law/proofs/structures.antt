-- What the operations of structures use: what a transaction sees of words and of nodes while an operation is under way,
-- by its states and by heaps alone.
pub mod FoundLater
pub mod SameIn
pub mod StoodThen
pub mod Tidying
pub mod Words
pub mod Nodes
pub mod NodesKnown
pub mod Growing
pub mod SeenValues
pub mod Exchanging
pub mod Answering
pub mod Noting
pub mod Reading
