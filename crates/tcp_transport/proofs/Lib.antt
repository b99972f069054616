pub mod Hearing
pub mod Places
pub mod Replicas
pub mod Sending
pub mod Sessions
pub mod Speech
