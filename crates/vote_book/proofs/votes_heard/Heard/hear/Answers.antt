use Rattle.std.proofs.Common.{arith}
use Rattle.std.proofs.lemmas.Grind.{common_steps}
use Rattle.vote_book.proofs.votes_heard.Heard.hear.Goals as goal

pub returns-clause-heard : goal.returns-clause-heard
returns-clause-heard c = grind (arith, common_steps)

pub returns-clause-kept : goal.returns-clause-kept
returns-clause-kept c = grind (arith, common_steps)
