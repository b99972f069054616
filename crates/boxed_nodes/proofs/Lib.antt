pub mod Sending
pub mod SentinelsLemmas
pub mod DataLemmas
pub mod ClientsLemmas
