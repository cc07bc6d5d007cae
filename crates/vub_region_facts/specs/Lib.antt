pub mod Phases
pub mod Starts
