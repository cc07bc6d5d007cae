pub mod BackendLemmas
mod DrainLemmas
pub mod StepLemmas
