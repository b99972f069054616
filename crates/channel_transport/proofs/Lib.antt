pub mod Naming
mod Numbering
pub mod Shown
