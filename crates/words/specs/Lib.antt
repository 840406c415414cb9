pub mod Words
pub mod Kinds
pub mod Types
pub mod Places
pub mod Claims
pub mod Layouts
pub mod Messages
