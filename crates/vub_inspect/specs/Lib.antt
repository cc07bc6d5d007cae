pub mod RegionBytes
