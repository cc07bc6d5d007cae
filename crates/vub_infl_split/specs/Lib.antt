pub mod Readings
pub mod Region
pub mod Sound
pub mod Stores
