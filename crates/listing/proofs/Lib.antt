pub mod Marking
pub mod Picking
pub mod Growth
pub mod Walks
pub mod Extending
pub mod Following
