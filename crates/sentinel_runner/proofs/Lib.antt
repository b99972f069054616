mod Cutting
pub mod Opening
mod Watches
