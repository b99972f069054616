use Rattle.std.proofs.Common.{rules}
use Rattle.vote_book.proofs.own_vote.VoteBook.open_campaign.Goals as goal

pub returns-clause-some : goal.returns-clause-some
returns-clause-some c = search rules
