use Rattle.std.proofs.Common.{rules}
use Rattle.fault_world.proofs.scenarios.arguments.place_word.Goals as goal

pub returns : goal.returns
returns c = search rules
