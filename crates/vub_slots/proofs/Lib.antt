pub mod DeviceLemmas
pub mod DriverLemmas
pub mod FlagLemmas
pub mod NumberLemmas
pub mod SlotLemmas
pub mod WalkLemmas
pub mod WindowLemmas
