use Rattle.std.proofs.Common.{◌≡◌, ◌++◌, length}
use Rattle.client_commands.specs.Rows.{all_commands}
use Rattle.client_commands.specs.Tables.{matching}
use Rattle.client_commands.proofs.tables.matching.Given as goal

abbrev pub invariant-loop-rest : goal.invariant-loop-rest
invariant-loop-rest l = matching l.pattern all_commands ≡ l.some.items ++ matching l.pattern l.rest

abbrev pub decreases-loop-rest : goal.decreases-loop-rest
decreases-loop-rest l = length l.rest
