pub mod Files
pub mod Seating
pub mod Playing
pub mod Refusals
