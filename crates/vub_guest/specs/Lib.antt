pub mod Guest
pub mod GuestRequest
pub mod GuestState
pub mod GuestStores
