pub mod MessageTexts
pub mod Deliveries
