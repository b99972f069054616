use Rattle.std.proofs.Common.{arith}
use Rattle.std.proofs.lemmas.Grind.{common_steps}
use Rattle.sentinel_state.proofs.cores.Core.hear_report.Goals as goal

pub returns-then-voter-sentinels : goal.returns-then-voter-sentinels
returns-then-voter-sentinels c = grind (arith, common_steps)
