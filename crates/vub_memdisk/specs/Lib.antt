pub mod DiskLaws
pub mod MemDisks
pub mod Sectors
