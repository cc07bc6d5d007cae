pub mod NoSectors
pub mod Values
