pub mod Holding
pub mod NewsSteps
pub mod PuttingBack
pub mod Flushes
pub mod InputsLemmas
pub mod ServingLemmas
