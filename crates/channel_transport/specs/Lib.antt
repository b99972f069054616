pub mod DataNodes
pub mod Dispatches
