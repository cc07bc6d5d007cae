pub mod BytesLemmas
pub mod FrameLemmas
pub mod ImageLemmas
pub mod MeaningLemmas
pub mod SpaceLemmas
pub mod TrailLemmas
pub mod WatchedLemmas
