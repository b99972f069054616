use Rattle.std.proofs.Common.{rules}
use Rattle.resp2.proofs.command.is_called.Goals as goal

pub returns-else-eq : goal.returns-else-eq
returns-else-eq c = search rules
