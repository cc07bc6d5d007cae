pub mod TaskState
pub mod Writes
