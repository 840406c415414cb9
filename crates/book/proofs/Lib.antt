pub mod Nths
pub mod Finds
pub mod Lower
pub mod Indexes
pub mod Adding
