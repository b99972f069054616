pub mod Admitting
pub mod Sending
