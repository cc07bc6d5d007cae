pub mod Readings
pub mod Region
pub mod Stores
pub mod Walks
