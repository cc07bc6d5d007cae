pub mod ReadingChecks
pub mod ReadingLemmas
pub mod WordLemmas
pub mod PlaceLemmas
