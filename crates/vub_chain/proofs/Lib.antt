pub mod DescLemmas
pub mod LeavesLemmas
pub mod ListLemmas
pub mod RingLemmas
pub mod TableLemmas
pub mod WalkLemmas
