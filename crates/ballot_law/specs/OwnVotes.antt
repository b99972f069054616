-- A Sentinel's own vote for one master.
use Rattle.std.specs.Prelude.{ℕ, max, Bool, Option, Some, nat_lt, nat_le, ◌&&◌, if◌then◌else◌}
use Rattle.ballot_law.specs.declared.addresses.RunId.{RunId}

-- the current epoch, the epoch of the last vote, and whom it went to, where that is known
pub record Book : Type 0 where
  pub current : ℕ
  pub voted : ℕ
  pub leader : Option RunId

-- the current epoch never falls
abbrev pub raised : Book → ℕ → Book
raised book epoch = record book { current = max book.current epoch }

-- one vote in an epoch, and none in an epoch that has passed
abbrev pub grants : Book → ℕ → Bool
grants book epoch = nat_lt book.voted epoch && nat_le book.current epoch

-- the book after a request for a vote
abbrev pub asked : Book → ℕ → RunId → Book
asked book epoch candidate =
    if grants book epoch then record { current = epoch; voted = epoch; leader = Some candidate } else raised book epoch
