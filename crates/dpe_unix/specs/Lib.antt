pub mod Ahead
pub mod Counts
pub mod Ended
pub mod Limit
pub mod Report
