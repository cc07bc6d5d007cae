pub mod ChainState
