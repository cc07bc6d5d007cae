mod Positions
mod SpaceLemmas
