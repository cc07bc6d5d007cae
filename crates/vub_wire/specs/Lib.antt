pub mod Flags
pub mod Requests
pub mod Grammar
pub mod Faults
pub mod Reading
pub mod Writing
pub mod Replies
pub mod Streams
