-- What follows from the definitions beside this folder, up to the laws that the theory cites. Nothing here is believed:
-- it is proved.
pub mod Finds
pub mod Maps
pub mod Buckets
pub mod Rising
pub mod HashTableLaws
