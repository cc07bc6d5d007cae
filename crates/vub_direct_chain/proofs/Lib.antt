pub mod ChainReading
pub mod ChainRules
