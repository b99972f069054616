pub mod Parts
pub mod Places
pub mod Nodes
pub mod Sights
