use Rattle.process_laws.proofs.PortCalls.{calls_hear_so}
use Rattle.process_laws.proofs.laws.law_port_calls_are_free.Goals as goal

pub returns : goal.returns
returns c = calls_hear_so
