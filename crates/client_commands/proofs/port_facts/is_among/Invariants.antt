use Rattle.std.proofs.Common.{◌≡◌, length}
use Rattle.client_commands.specs.Ports.{is_among}
use Rattle.client_commands.proofs.port_facts.is_among.Given as goal

abbrev pub invariant-loop-rest : goal.invariant-loop-rest
invariant-loop-rest l = is_among l.place l.places ≡ is_among l.place l.rest

abbrev pub decreases-loop-rest : goal.decreases-loop-rest
decreases-loop-rest l = length l.rest
