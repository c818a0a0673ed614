pub mod Births
