use Rattle.std.proofs.Common.{ap, sym}
use Rattle.port_sessions.specs.OnTheWay.{ended_by}
use Rattle.port_sessions.proofs.responder.of_act.Goals as goal

pub returns-in-NoMemory : goal.returns-in-NoMemory
returns-in-NoMemory c = ap ended_by (sym c.in-NoMemory.is)
