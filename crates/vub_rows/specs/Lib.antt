pub mod Lives
pub mod WriteAndRead
