pub mod Rings
pub mod Seen
pub mod SplitLemmas
pub mod Words
