pub mod MadeLemmas
pub mod PieceLemmas
pub mod TableLemmas
