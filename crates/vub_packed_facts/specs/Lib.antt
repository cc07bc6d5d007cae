pub mod Batches
pub mod Chains
pub mod Found
pub mod Left
pub mod Lives
pub mod News
pub mod Starts
