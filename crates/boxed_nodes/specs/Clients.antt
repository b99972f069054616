pub mod Searches
pub mod Clients
