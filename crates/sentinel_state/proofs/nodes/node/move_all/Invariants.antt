use Rattle.std.proofs.Common.{◌≡◌, ◌++◌, map, take, drop}
use Rattle.ballot_law.specs.Clocks.{clock}
use Rattle.sentinel_rules.specs.News.{relocated}
use Rattle.sentinel_state.proofs.nodes.node.move_all.Given as goal

abbrev pub invariant-loop-node : goal.invariant-loop-node
invariant-loop-node l = l.nodes ≡ map (relocated l.profile (clock l.now)) (take l.node-index l.initial.nodes) ++ drop l.node-index l.initial.nodes
