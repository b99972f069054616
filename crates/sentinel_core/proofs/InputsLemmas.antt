pub mod FewBest
pub mod Looking
pub mod Openings
pub mod PartSteps
pub mod Sights
pub mod AnswerRows
pub mod InfoTexts
