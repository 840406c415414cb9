pub mod Parts
pub mod Voicing
