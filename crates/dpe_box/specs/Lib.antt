pub mod Sealed
pub mod Unsealed
pub mod Laws
