pub mod Globs
pub mod Listening
pub mod Confirming
pub mod Telling
pub mod Answering
pub mod Sound
