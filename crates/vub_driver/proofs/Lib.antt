pub mod Examples
pub mod FillLemmas
