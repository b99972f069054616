pub mod Asking
pub mod Hearing
pub mod Keeping
pub mod Places
pub mod Saying
pub mod SessionsLemmas
