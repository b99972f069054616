use Rattle.std.proofs.Common.{◌≡◌, ◌+◌, ◌-◌, ◌*◌}
use Rattle.std.specs.Prelude.{map}
use Rattle.resp2.specs.Framing.Frame.{view}
use Rattle.resp2.specs.Framing.Reading.{value_at, values_at}
use Rattle.resp2.proofs.FramingLemmas.Loop.{with_front}
use Rattle.resp2.proofs.framing.reading.+values.Given as goal

abbrev pub decreases-items_of : goal.decreases-items_of
decreases-items_of l = 3 * l.depth + 2

abbrev pub decreases-value_of : goal.decreases-value_of
decreases-value_of l = 3 * l.depth

abbrev pub decreases-values_of : goal.decreases-values_of
decreases-values_of l = 3 * l.depth + 1

abbrev pub invariant-values_of-loop : goal.invariant-values_of-loop
invariant-values_of-loop l = with_front (map view l.values.items) (values_at (value_at 1024 l.more l.depth) (l.count - l.counter) l.rest) ≡ values_at
    (value_at 1024 l.more l.depth) l.count l.bytes
