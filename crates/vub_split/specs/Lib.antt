pub mod Split
pub mod Stores
pub mod Words
