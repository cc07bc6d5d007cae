pub mod ChainLemmas
pub mod GuestLemmas
pub mod Offers
pub mod RequestLemmas
