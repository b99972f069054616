use Rattle.std.proofs.Common.{◌≡◌, ◌≤◌}
use Rattle.ballot_law.specs.VotesHeard.{count_in, kept_at}
use Rattle.vote_book.proofs.votes_heard.count_of.Given as goal

abbrev pub invariant-loop-vote : goal.invariant-loop-vote
invariant-loop-vote l =
    record {
      few : l.count ≤ l.vote-index;
      counted : l.count ≡ count_in (kept_at l.votes) l.vote-index l.epoch l.candidate;
    }
