use Rattle.std.proofs.Common.{◌≡◌, ◌++◌, length}
use Rattle.resp2.specs.Framing.Frame.{spellings}
use Rattle.pubsub.specs.Telling.{told_for}
use Rattle.pubsub.proofs.telling.add_for_patterns.Given as goal

abbrev pub invariant-loop-rest : goal.invariant-loop-rest
invariant-loop-rest l = l.fn.out ++ spellings (told_for l.patterns l.channel l.text) ≡ l.out ++ spellings (told_for l.rest l.channel l.text)

abbrev pub decreases-loop-rest : goal.decreases-loop-rest
decreases-loop-rest l = length l.rest
