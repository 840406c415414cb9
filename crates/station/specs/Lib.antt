pub mod Meaning
pub mod Ready
