pub mod WarningsSoFar
