use Rattle.std.proofs.Common.{◌≡◌, ◌++◌, length, map}
use Rattle.resp2.specs.Framing.Frame.{bulk, view}
use Rattle.client_commands.proofs.lines.array_of.Given as goal

abbrev pub invariant-loop-rest : goal.invariant-loop-rest
invariant-loop-rest l = map view l.values.items ++ map bulk l.rest ≡ map bulk l.fn.words

abbrev pub decreases-loop-rest : goal.decreases-loop-rest
decreases-loop-rest l = length l.rest
