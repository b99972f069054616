use Rattle.std.proofs.Common.{rules}
use Rattle.vote_book.proofs.own_vote.VoteBook.ask.Goals as goal

pub returns-clause-book : goal.returns-clause-book
returns-clause-book c = search rules

pub returns-clause-granted : goal.returns-clause-granted
returns-clause-granted c = search rules
