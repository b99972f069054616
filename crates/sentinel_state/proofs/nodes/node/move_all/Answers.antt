use Rattle.std.proofs.Common.{arith}
use Rattle.std.proofs.lemmas.Grind.{common_steps}
use Rattle.std.proofs.lemmas.List.Edits.{map_over_more}
use Rattle.ballot_law.specs.Clocks.{clock}
use Rattle.sentinel_rules.specs.News.{relocated}
use Rattle.sentinel_state.proofs.nodes.node.move_all.Goals as goal

pub loop-node-preserved : goal.loop-node-preserved
loop-node-preserved c = grind (arith, common_steps, map_over_more (relocated c.args.profile (clock c.args.now)))
