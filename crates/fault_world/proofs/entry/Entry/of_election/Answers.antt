use Rattle.std.proofs.Common.{arith}
use Rattle.std.proofs.lemmas.Grind.{common_steps}
use Rattle.fault_world.proofs.entry.Entry.of_election.Goals as goal

pub returns : goal.returns
returns c = grind (arith, common_steps)
