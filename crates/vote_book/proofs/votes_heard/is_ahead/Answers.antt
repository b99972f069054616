use Rattle.std.proofs.Common.{rules}
use Rattle.vote_book.proofs.votes_heard.is_ahead.Goals as goal

pub returns : goal.returns
returns c = search rules
