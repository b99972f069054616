pub mod Orders
pub mod Statuses
pub mod ToldSettings
