use Rattle.std.proofs.Common.{◌≡◌, ◌++◌, length}
use Rattle.client_commands.specs.Rows.{all_commands}
use Rattle.client_commands.specs.Tables.{in_category}
use Rattle.client_commands.proofs.tables.in_category.Given as goal

abbrev pub invariant-loop-rest : goal.invariant-loop-rest
invariant-loop-rest l = in_category l.word all_commands ≡ l.some.items ++ in_category l.word l.rest

abbrev pub decreases-loop-rest : goal.decreases-loop-rest
decreases-loop-rest l = length l.rest
