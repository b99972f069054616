pub mod Errors
pub mod Warnings
pub mod Group
pub mod Repair
pub mod Change
