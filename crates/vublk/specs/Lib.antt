pub mod Ends
pub mod Flows
pub mod Records
pub mod Statuses
pub mod Words
