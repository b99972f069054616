pub mod Asks
pub mod Answers
pub mod Readings
pub mod Findings
pub mod Talks
