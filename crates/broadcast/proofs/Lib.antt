pub mod Entries
pub mod Supports
