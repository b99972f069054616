use Rattle.std.proofs.Common.{◌≡◌, ◌++◌, length}
use Rattle.client_commands.specs.ClientLines.{client_lines}
use Rattle.client_commands.proofs.listing.add_lines.Given as goal

abbrev pub invariant-loop-rest : goal.invariant-loop-rest
invariant-loop-rest l = l.fn.out ++ client_lines l.asker.id l.asker.name l.asker.protocol l.last l.asker.port l.wanted l.asker.port.clients
    ≡ l.out ++ client_lines l.asker.id l.asker.name l.asker.protocol l.last l.asker.port l.wanted l.rest

abbrev pub decreases-loop-rest : goal.decreases-loop-rest
decreases-loop-rest l = length l.rest
