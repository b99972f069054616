pub mod Hearing
pub mod Running
pub mod Saying
pub mod Ticking
