-- What an own vote comes to in a campaign: the epoch that it opens, and whether its votes elect.
use Rattle.std.specs.Prelude.{ℕ, ◌+◌, Bool, nat_lt, nat_le}
use Rattle.ballot_law.specs.declared.addresses.RunId.{RunId}
use Rattle.ballot_law.specs.declared.cards.TheConstants.{MAX_EPOCH}
use Rattle.ballot_law.specs.OwnVotes.{Book}
use Rattle.ballot_law.specs.VotesHeard.{own_votes}

-- an epoch is left for a campaign
abbrev pub can_open : Book → Bool
can_open book = nat_lt book.current MAX_EPOCH

-- a campaign opens the epoch after the current one
abbrev pub next_epoch : Book → ℕ
next_epoch book = book.current + 1

-- so many votes heard for a candidate in an epoch, with the own one, are as many as are needed
abbrev pub elects : Book → (count epoch : ℕ) → RunId → (need : ℕ) → Bool
elects book count epoch me need = nat_le need (count + own_votes book epoch me)
