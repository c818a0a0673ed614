pub mod Values
pub mod Options
pub mod Acts
pub mod Grammar
