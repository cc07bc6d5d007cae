mod FieldLemmas
pub mod PendingLemmas
pub mod PositionLemmas
