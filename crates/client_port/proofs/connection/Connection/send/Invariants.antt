use Rattle.std.proofs.Common.{◌≡◌}
use Rattle.courteous_sessions.specs.Clients.{unsent_of}
use Rattle.client_port.specs.Sending.{IsSent}
use Rattle.client_port.proofs.connection.Connection.send.Given as goal

-- what was sent so far is what is gone of the front
abbrev pub invariant-loop : goal.invariant-loop
invariant-loop g l =
    IsSent (g.T.Write.contents l.fn.self.stream) (g.T.Write.contents l.self.stream) (unsent_of l.fn.self.session) (unsent_of l.self.session)
    × (l.self.reach ≡ l.fn.self.reach)
