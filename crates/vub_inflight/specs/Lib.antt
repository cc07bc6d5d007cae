pub mod Entries
pub mod Links
pub mod Neighbours
pub mod Readings
pub mod Words
