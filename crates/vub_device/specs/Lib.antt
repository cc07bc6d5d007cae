pub mod Crash
pub mod Durable
pub mod Legal
pub mod Past
pub mod Places
pub mod Requests
