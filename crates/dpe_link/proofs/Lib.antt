pub mod Bodies
pub mod Filling
pub mod Splits
