use Rattle.vote_book.proofs.own_vote.VoteBook.of.Goals as goal

pub returns : goal.returns
returns c = c.with_leader.ensures
