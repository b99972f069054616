use Rattle.std.proofs.Common.{rules}
use Rattle.vote_book.proofs.own_vote.VoteBook.own_votes.Goals as goal

pub returns-in-Some-clause-own : goal.returns-in-Some-clause-own
returns-in-Some-clause-own c = search rules
