pub mod ChangedRosters
pub mod Keeping
