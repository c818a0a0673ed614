pub mod Cdi
pub mod Meters
