use Rattle.std.proofs.Common.{rules}
use Rattle.fault_world.proofs.seated.Seated.new.Goals as goal

pub returns-clause-stopped : goal.returns-clause-stopped
returns-clause-stopped g c = search rules
