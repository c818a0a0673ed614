pub mod Contexts
pub mod Kept
pub mod CoreState
pub mod CoreView
pub mod Judging
pub mod Born
pub mod Folds
