pub mod GatherLemmas
pub mod JoinLemmas
