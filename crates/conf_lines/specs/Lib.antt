pub mod Words
pub mod Lines
pub mod Values
pub mod Results
pub mod Faults
