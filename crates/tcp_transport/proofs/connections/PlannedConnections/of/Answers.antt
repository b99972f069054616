-- The connections keep the logins that they are given.
use Rattle.std.proofs.Common.{refl}
use Rattle.tcp_transport.proofs.connections.PlannedConnections.of.Goals as goal

pub returns-clause-logins : goal.returns-clause-logins
returns-clause-logins g c = refl
