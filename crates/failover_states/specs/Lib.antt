pub mod Calls
pub mod Elections
pub mod Failovers
pub mod Known
pub mod Orders
pub mod Replicas
pub mod Table
