use Rattle.std.proofs.Common.{◌≡◌, ◌++◌, length, map}
use Rattle.group_status.specs.Saying.{trouble_of, asked_trouble}
use Rattle.group_status.proofs.matter_lists.nodes_reached.Given as goal

abbrev pub invariant-loop-rest : goal.invariant-loop-rest
invariant-loop-rest l = map asked_trouble l.list.items ++ map (λ facts. trouble_of facts.said) l.rest
    ≡ map (λ facts. trouble_of facts.said) l.nodes

abbrev pub decreases-loop-rest : goal.decreases-loop-rest
decreases-loop-rest l = length l.rest
