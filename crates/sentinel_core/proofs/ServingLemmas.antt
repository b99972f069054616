pub mod Answering
pub mod KnownBytes
pub mod Steps
pub mod Writing
