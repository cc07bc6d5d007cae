pub mod CauseLemmas
pub mod CounterLemmas
pub mod DistinctLemmas
pub mod Each
pub mod EntryLemmas
pub mod LinkLemmas
pub mod Twins
pub mod WordLemmas
