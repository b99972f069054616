use Rattle.port_sessions.proofs.Storing.{others_store_nothing}
use Rattle.port_sessions.proofs.laws.law_others_store_nothing.Goals as goal

pub returns : goal.returns
returns c = others_store_nothing
