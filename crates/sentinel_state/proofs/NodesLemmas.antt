pub mod MasterNames
pub mod NodeNumbers
pub mod PlaceLoops
pub mod RoomLemmas
