pub mod Keeping
pub mod Sends
