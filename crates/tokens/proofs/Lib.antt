pub mod NumberLemmas
pub mod DotLemmas
pub mod HexLemmas
pub mod PartDigits
pub mod HexTables
pub mod QuoteLemmas
