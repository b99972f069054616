use Rattle.std.proofs.Common.{◌≡◌, length}
use Rattle.ballot_law.specs.VotesHeard.{leader_below, count_in, kept_at}
use Rattle.vote_book.proofs.votes_heard.leader_among.Given as goal

abbrev pub invariant-loop-vote : goal.invariant-loop-vote
invariant-loop-vote l =
    l.leader ≡ leader_below (count_in (kept_at l.votes) (length l.votes) l.epoch) (kept_at l.votes) l.epoch l.vote-index
