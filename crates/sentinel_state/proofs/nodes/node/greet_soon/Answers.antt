use Rattle.std.proofs.Common.{arith}
use Rattle.std.proofs.lemmas.Grind.{common_steps}
use Rattle.std.proofs.lemmas.List.Edits.{map_over_more}
use Rattle.sentinel_rules.specs.News.{hello_soon}
use Rattle.sentinel_state.proofs.nodes.node.greet_soon.Goals as goal

pub loop-node-preserved : goal.loop-node-preserved
loop-node-preserved c = grind (arith, common_steps, map_over_more hello_soon)
