pub mod AllFaults
pub mod Claims
pub mod Notes
pub mod Places
pub mod Sentences
