pub mod ReadRow
pub mod Tracked
pub mod Turns
pub mod WriteRow
