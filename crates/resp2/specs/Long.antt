pub mod LongValues
pub mod LongHeld
pub mod LongLaws
