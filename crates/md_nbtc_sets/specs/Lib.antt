pub mod Sets
pub mod Marks
pub mod Beginning
pub mod Deciding
