use Rattle.std.proofs.Common.{rules}
use Rattle.vote_book.proofs.votes_heard.elected.Goals as goal

pub returns-clause-elected : goal.returns-clause-elected
returns-clause-elected c = search rules

pub returns-clause-kept : goal.returns-clause-kept
returns-clause-kept c = search rules
