use Rattle.std.proofs.Common.{◌≡◌, ◌++◌, length}
use Rattle.resp2.specs.Commands.{words}
use Rattle.resp2.specs.Framing.Frame.{frames_view}
use Rattle.resp2.proofs.words.words_of_items.Given as goal

abbrev pub invariant-loop-rest : goal.invariant-loop-rest
invariant-loop-rest l = l.words.items ++ words (frames_view l.rest) ≡ words (frames_view l.items)

abbrev pub decreases-loop-rest : goal.decreases-loop-rest
decreases-loop-rest l = length l.rest
