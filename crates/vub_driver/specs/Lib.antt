pub mod Drivers
pub mod GuestChain
pub mod Layout
pub mod OwnStores
pub mod Requests
pub mod Shown
pub mod Stores
pub mod TableChain
