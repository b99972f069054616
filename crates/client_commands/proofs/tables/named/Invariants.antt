use Rattle.std.proofs.Common.{◌≡◌, length}
use Rattle.client_commands.specs.Rows.{all_commands}
use Rattle.client_commands.specs.Tables.{named}
use Rattle.client_commands.proofs.tables.named.Given as goal

abbrev pub invariant-loop-rest : goal.invariant-loop-rest
invariant-loop-rest l = named all_commands l.word ≡ named l.rest l.word

abbrev pub decreases-loop-rest : goal.decreases-loop-rest
decreases-loop-rest l = length l.rest
