use Rattle.std.proofs.Common.{◌≡◌, map, length}
use Rattle.ballot_law.specs.Cuts.{lines}
use Rattle.node_texts.specs.Lines.{without_return}
use Rattle.node_texts.specs.Announced.{announced_after, is_announced}
use Rattle.node_texts.proofs.announced.is_announced.Given as goal

abbrev pub invariant-loop-rest : goal.invariant-loop-rest
invariant-loop-rest l = announced_after l.announced (map without_return (lines l.rest)) ≡ is_announced l.fn.text

abbrev pub decreases-loop-rest : goal.decreases-loop-rest
decreases-loop-rest l = length l.rest
