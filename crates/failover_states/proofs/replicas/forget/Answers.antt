use Rattle.std.proofs.Common.{arith}
use Rattle.std.proofs.lemmas.Grind.{common_steps}
use Rattle.std.proofs.lemmas.List.Edits.{map_over_more}
use Rattle.failover_states.specs.Replicas.{forgotten}
use Rattle.failover_states.proofs.replicas.forget.Goals as goal

pub loop-replica-preserved : goal.loop-replica-preserved
loop-replica-preserved c = grind (arith, common_steps, map_over_more forgotten)
