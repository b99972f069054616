pub mod Frame
pub mod Reading
pub mod Stream
pub mod Writing
pub mod Faults
pub mod Place
