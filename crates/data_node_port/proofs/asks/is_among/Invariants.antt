use Rattle.std.proofs.Common.{◌≡◌, length}
use Rattle.data_node_port.specs.Asks.{is_among}
use Rattle.data_node_port.proofs.asks.is_among.Given as goal

abbrev pub invariant-loop-rest : goal.invariant-loop-rest
invariant-loop-rest l = is_among l.section l.args ≡ is_among l.section l.rest

abbrev pub decreases-loop-rest : goal.decreases-loop-rest
decreases-loop-rest l = length l.rest
