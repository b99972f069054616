pub mod Room
pub mod Answers
pub mod InfoLines
pub mod RedisRows
pub mod Limits
