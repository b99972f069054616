pub mod Formers
pub mod Sentinels
pub mod Inputs
pub mod Serving
