pub mod GroupTexts
pub mod Mended
