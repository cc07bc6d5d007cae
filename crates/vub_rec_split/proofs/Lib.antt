pub mod LoadLemmas
pub mod PlaceLemmas
pub mod PlanSteps
pub mod PlanStores
pub mod StandLemmas
pub mod StartLemmas
