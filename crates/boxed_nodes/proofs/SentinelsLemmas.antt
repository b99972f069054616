pub mod Few
pub mod Fresh
pub mod Listed
pub mod Sending
pub mod SentinelMoves
pub mod Wins
