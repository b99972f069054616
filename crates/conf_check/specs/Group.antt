pub mod Groups
pub mod Verdicts
