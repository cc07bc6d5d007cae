pub mod ArmLemmas
pub mod StepLemmas
pub mod TaskLemmas
