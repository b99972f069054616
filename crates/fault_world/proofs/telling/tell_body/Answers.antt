use Rattle.std.proofs.Common.{rules}
use Rattle.fault_world.proofs.telling.tell_body.Goals as goal

pub returns-in-Some-clause-entries : goal.returns-in-Some-clause-entries
returns-in-Some-clause-entries c = search rules
