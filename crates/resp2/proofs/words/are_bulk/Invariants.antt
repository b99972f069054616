use Rattle.std.proofs.Common.{◌≡◌, drop}
use Rattle.resp2.specs.Commands as commands
use Rattle.resp2.specs.Framing.Frame.{frames_view}
use Rattle.resp2.proofs.words.are_bulk.Given as goal

abbrev pub invariant-loop-item : goal.invariant-loop-item
invariant-loop-item l = commands.are_bulk (frames_view l.items) ≡ commands.are_bulk (frames_view (drop l.item-index l.items))
