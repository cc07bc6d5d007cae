pub mod Digits
pub mod Fields
pub mod Requests
pub mod Lines
pub mod Texts
pub mod FirstBad
