pub mod ErrorsLemmas
pub mod WarningsLemmas
pub mod GroupLemmas
pub mod RepairLemmas
