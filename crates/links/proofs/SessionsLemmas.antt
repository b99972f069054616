pub mod Counts
pub mod Joining
pub mod Stepping
