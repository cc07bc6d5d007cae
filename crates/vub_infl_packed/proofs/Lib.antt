pub mod FaultLemmas
pub mod LoadLemmas
pub mod WalkLemmas
pub mod WordLemmas
