pub mod Defaults
pub mod Searching
pub mod Slots
