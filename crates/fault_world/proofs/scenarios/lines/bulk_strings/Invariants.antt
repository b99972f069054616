use Rattle.std.proofs.Common.{◌≡◌, ◌++◌, map, length}
use Rattle.resp2.specs.Framing.Frame.{bulk, view}
use Rattle.fault_world.specs.Scenarios.Read.{words_left}
use Rattle.fault_world.proofs.scenarios.lines.bulk_strings.Given as goal

abbrev pub invariant-loop-word : goal.invariant-loop-word
invariant-loop-word l = map view l.values.items ++ map bulk (words_left l.rest) ≡ map bulk (words_left l.fn.words)

abbrev pub decreases-loop-word : goal.decreases-loop-word
decreases-loop-word l = length (words_left l.rest)
