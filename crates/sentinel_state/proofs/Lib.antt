pub mod AtPlaces
pub mod FewPlaces
pub mod KeptLemmas
pub mod NodesLemmas
pub mod OwnVotes
