pub mod DriverStores
pub mod Flags
pub mod Ring
pub mod Slots
pub mod Stands
pub mod Stores
