use Rattle.std.proofs.Common.{rules}
use Rattle.resp2.proofs.command.candidate_of.Goals as goal

pub returns-then-eq : goal.returns-then-eq
returns-then-eq c = search rules
