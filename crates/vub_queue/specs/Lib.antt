pub mod Moves
pub mod Queue
pub mod QueueFacts
pub mod QueueParts
pub mod QueueState
pub mod Turned
