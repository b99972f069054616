pub mod Lines
pub mod Passing
pub mod Headers
pub mod Values
pub mod Going
