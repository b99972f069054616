use Rattle.resp2.proofs.Found.{found_count}
use Rattle.resp2.proofs.asked.asked_of.Goals as goal

pub returns-in-Some-clause-found : goal.returns-in-Some-clause-found
returns-in-Some-clause-found c = found_count c.args.bytes.now c.in-Some.rest.now c.in-Some.asked c.saturating_sub.result c.in-Some.ensures.found c.saturating_sub.ensures
