pub mod Offers
pub mod Packed
pub mod Restores
