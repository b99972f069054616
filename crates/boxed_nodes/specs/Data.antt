pub mod Servers
pub mod Nodes
