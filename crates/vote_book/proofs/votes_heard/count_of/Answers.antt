use Rattle.std.proofs.Common.{rules}
use Rattle.vote_book.proofs.votes_heard.count_of.Goals as goal

pub loop-vote-preserved : goal.loop-vote-preserved
loop-vote-preserved c = search rules
