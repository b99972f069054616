pub mod Images
pub mod Sendable
pub mod Moves
pub mod Turns
pub mod Sentinels
pub mod Data
pub mod Clients
