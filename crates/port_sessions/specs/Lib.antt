pub mod Listening
pub mod Talks
pub mod Stores
pub mod Notes
pub mod OnTheWay
pub mod GoingOn
pub mod Laws
