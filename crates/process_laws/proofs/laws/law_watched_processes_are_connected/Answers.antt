use Rattle.process_laws.proofs.Watched.{watched_are_connected, watched_are_safe}
use Rattle.process_laws.proofs.laws.law_watched_processes_are_connected.Goals as goal

pub returns : goal.returns
returns c = record { connected = watched_are_connected; safe = watched_are_safe }
