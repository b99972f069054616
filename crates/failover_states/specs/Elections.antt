-- The own vote of a campaign, and when the votes elect: a vote book's rules, over the facts of a turn.
use Rattle.std.specs.Prelude.{ℕ, Bool, Option, Some, None, if◌then◌else◌}
use Rattle.ballot_law.specs.declared.addresses.RunId.{RunId}
use Rattle.ballot_law.specs.OwnVotes.{Book, grants, asked}
use Rattle.vote_book.specs.Elections.{elects}
use Rattle.failover_states.specs.Known.{Known}

-- the own vote before the turn
abbrev pub book_in : Known → Book
book_in k = record { current = k.current; voted = k.voted; leader = k.own }

-- where the vote of the campaign's epoch is still to be had, it goes to the candidate with most of the votes heard
abbrev pub vote_in : (epoch : ℕ) → Known → Option RunId
vote_in epoch k = if grants (book_in k) epoch then Some k.pick else None

-- the votes heard in the campaign's epoch elect, with the own one, be it given in this turn or before
abbrev pub is_elected : (epoch : ℕ) → Known → Bool
is_elected epoch k = elects (asked (book_in k) epoch k.pick) k.count epoch k.me k.need
