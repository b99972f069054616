pub mod Bulks
pub mod Following
pub mod Texts
