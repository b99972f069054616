pub mod Lines
pub mod Talking
