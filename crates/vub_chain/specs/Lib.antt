pub mod Chains
pub mod Descs
pub mod Leaves
pub mod Spans
pub mod Steps
