pub mod Numerals
pub mod Reasons
