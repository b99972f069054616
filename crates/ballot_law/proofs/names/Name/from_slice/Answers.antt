use Rattle.std.proofs.Common.{rules}
use Rattle.ballot_law.proofs.names.Name.from_slice.Goals as goal

pub returns-then-is_empty-clause-some : goal.returns-then-is_empty-clause-some
returns-then-is_empty-clause-some c = search rules
