use Rattle.ballot_law.proofs.CountedVotes.{ElectedHasVotes-holds}
use Rattle.vote_book.proofs.laws.law_elected_has_votes.Goals as goal

pub returns : goal.returns
returns c = ElectedHasVotes-holds
