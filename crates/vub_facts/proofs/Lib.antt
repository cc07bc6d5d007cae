pub mod FactStarts
pub mod FactSteps
pub mod FactWords
pub mod HeadLemmas
pub mod HeldSteps
pub mod Places
