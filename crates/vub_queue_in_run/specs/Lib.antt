pub mod QueueAt
