pub mod Plans
pub mod Readiness
pub mod Rows
pub mod Steps
pub mod Tasks
