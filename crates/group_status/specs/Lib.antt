pub mod Saying
pub mod Wellness
