pub mod Keys
pub mod Boxes
pub mod Laws
pub mod Words
pub mod Ends
