mod Messages
mod Files
mod Groups
mod Objects
pub mod Limits
mod Tracing
