use Rattle.std.proofs.Common.{◌≡◌, ◌+◌, length}
use Rattle.data_node_port.specs.Readings.{before_end}
use Rattle.data_node_port.proofs.readings.before_end.Given as goal

abbrev pub invariant-loop-rest : goal.invariant-loop-rest
invariant-loop-rest l = (l.count + before_end l.rest ≡ before_end l.bytes) × (l.count + length l.rest ≡ length l.bytes)

abbrev pub decreases-loop-rest : goal.decreases-loop-rest
decreases-loop-rest l = length l.rest
