pub mod HashTable
pub mod Laws
pub mod Rows
