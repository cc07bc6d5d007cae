pub mod Examples
pub mod ReadinessLemmas
pub mod StartLemmas
pub mod StepLemmas
