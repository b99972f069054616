use Rattle.std.proofs.Common.{◌≡◌}
use Rattle.client_port.proofs.clients.Clients.next_voter.Given as goal

-- no connection was touched so far
abbrev pub invariant-loop : goal.invariant-loop
invariant-loop l = l.self.connections ≡ l.fn.self.connections
