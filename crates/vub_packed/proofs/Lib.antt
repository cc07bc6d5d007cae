pub mod PackedLemmas
pub mod Seen
pub mod Words
