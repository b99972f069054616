use Rattle.std.proofs.Common.{rules, sym}
use Rattle.links.proofs.target.store_target.Goals as goal
use Rattle.links.proofs.Places.{is_numbered}

pub returns-in-None-clause-none : goal.returns-in-None-clause-none
returns-in-None-clause-none c = is_numbered c.args.roster.now c.args.number (sym c.in-None.ensures.value)

pub returns-in-Some-clause-listens : goal.returns-in-Some-clause-listens
returns-in-Some-clause-listens c = search rules
