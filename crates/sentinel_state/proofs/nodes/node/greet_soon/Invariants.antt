use Rattle.std.proofs.Common.{◌≡◌, ◌++◌, map, take, drop}
use Rattle.sentinel_rules.specs.News.{hello_soon}
use Rattle.sentinel_state.proofs.nodes.node.greet_soon.Given as goal

abbrev pub invariant-loop-node : goal.invariant-loop-node
invariant-loop-node l = l.nodes ≡ map hello_soon (take l.node-index l.initial.nodes) ++ drop l.node-index l.initial.nodes
