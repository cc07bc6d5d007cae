pub mod BatchLemmas
pub mod SoundLemmas
pub mod StartLemmas
pub mod LifeLemmas
pub mod MemoryLemmas
