use Rattle.std.proofs.Common.{arith}
use Rattle.links.proofs.SessionsLemmas.Counts.{not_three}
use Rattle.links.proofs.sessions.replies.votes_of.Goals as goal

pub returns-in_default : goal.returns-in_default
returns-in_default c = not_three c.args.items.now (omega (arith, c.in_default.len_below))

pub returns-in_default-2 : goal.returns-in_default-2
returns-in_default-2 c = not_three c.args.items.now (omega (arith, c.in_default.len_at_least))
