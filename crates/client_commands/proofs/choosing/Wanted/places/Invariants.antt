use Rattle.std.proofs.Common.{◌≡◌, ◌++◌, length}
use Rattle.client_commands.specs.Choosing.{places_of}
use Rattle.client_commands.proofs.choosing.Wanted.places.Given as goal

abbrev pub invariant-loop-rest : goal.invariant-loop-rest
invariant-loop-rest l = places_of l.asker l.port.killed l.self l.port.clients ≡ l.places.items ++ places_of l.asker l.port.killed l.self l.rest

abbrev pub decreases-loop-rest : goal.decreases-loop-rest
decreases-loop-rest l = length l.rest
