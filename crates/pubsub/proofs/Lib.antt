pub mod Bytes
pub mod Finding
pub mod Fitting
pub mod Lines
pub mod Listed
pub mod OwnCommands
pub mod Shorter
pub mod Sounding
