pub mod Faults
pub mod Hellos
pub mod Infos
pub mod Announced
pub mod Lines
pub mod Roles
pub mod Messages
