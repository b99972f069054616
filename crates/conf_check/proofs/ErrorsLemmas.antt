pub mod FirstFaults
pub mod Foreign
pub mod OneNote
