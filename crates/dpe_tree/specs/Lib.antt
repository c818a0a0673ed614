pub mod Tree
pub mod Arena
