pub mod Commands
pub mod Asked
pub mod Framing
pub mod Long
