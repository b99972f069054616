pub mod SpelledNames
pub mod Nearest
pub mod Advices
pub mod Warnings
pub mod Losses
pub mod WatchWarnings
