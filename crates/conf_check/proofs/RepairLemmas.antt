pub mod Fitting
pub mod MendedFiles
pub mod ReadSoFar
