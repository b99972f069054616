use Rattle.resp2.proofs.Found.{ping_found}
use Rattle.resp2.proofs.asked.ping_at.Goals as goal

pub returns-clause-found : goal.returns-clause-found
returns-clause-found c = ping_found c.args.bytes.now c.in_ok-rest.rest.now c.in_ok-rest.ensures
