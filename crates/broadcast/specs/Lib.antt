pub mod Ballots
pub mod Grades
pub mod Tallies
pub mod Supports
pub mod Relays
