pub mod SpacedWords
pub mod Cuts
pub mod DirectiveSteps
pub mod StateLemmas
pub mod ValidLines
