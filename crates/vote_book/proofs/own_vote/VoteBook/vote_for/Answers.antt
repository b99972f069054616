use Rattle.std.proofs.Common.{rules}
use Rattle.vote_book.proofs.own_vote.VoteBook.vote_for.Goals as goal

pub returns-clause-book : goal.returns-clause-book
returns-clause-book c = search rules
