pub mod Backends
