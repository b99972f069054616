use Rattle.sentinel_runner.proofs.Watches.{sockets_tell, watches_are_connected, watches_are_safe}
use Rattle.sentinel_runner.proofs.laws.law_watches_are_safe.Goals as goal

pub returns-clause-sockets : goal.returns-clause-sockets
returns-clause-sockets c = sockets_tell

pub returns-clause-connected : goal.returns-clause-connected
returns-clause-connected c = watches_are_connected

pub returns-clause-safe : goal.returns-clause-safe
returns-clause-safe c = watches_are_safe
