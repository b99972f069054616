use Rattle.std.specs.List.{AllByRecursion}
use Rattle.links.specs.Sessions.Links.{events_in}
use Rattle.tcp_transport.specs.Hearing.{IsTakeable}
use Rattle.tcp_transport.proofs.peer_connection.hand_on_all.Given as goal

abbrev pub invariant-loop-told : goal.invariant-loop-told
invariant-loop-told g l = AllByRecursion (IsTakeable g.J.Which.told) (events_in l.told-iterator.rest.items)
