use Rattle.tcp_transport.specs.Traffic.{Sends}
use Rattle.tcp_transport.proofs.traffic.send_unsent.Given as goal

-- what was written so far is what is gone of the front
abbrev pub invariant-loop : goal.invariant-loop
invariant-loop g l = Sends (g.S.Socket.stands l.fn.socket) (g.S.Socket.stands l.socket) l.fn.link l.link
