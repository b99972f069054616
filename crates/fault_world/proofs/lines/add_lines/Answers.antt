use Rattle.std.proofs.Common.{rules}
use Rattle.fault_world.proofs.lines.add_lines.Goals as goal

pub returns-in-Err-clause-err : goal.returns-in-Err-clause-err
returns-in-Err-clause-err c = search rules
