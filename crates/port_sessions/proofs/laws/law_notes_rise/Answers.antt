use Rattle.port_sessions.proofs.Told.{notes_rise}
use Rattle.port_sessions.proofs.laws.law_notes_rise.Goals as goal

pub returns : goal.returns
returns c = notes_rise
