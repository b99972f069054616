use Rattle.std.proofs.Common.{◌≡◌, ◌≤◌, ◌++◌, length}
use Rattle.resp2.specs.Framing.Frame.{spellings}
use Rattle.pubsub.specs.Confirming.{emptied}
use Rattle.pubsub.proofs.changes.add_emptied.Given as goal

abbrev pub invariant-loop-rest : goal.invariant-loop-rest
invariant-loop-rest l = record {
  text : l.fn.out ++ spellings (emptied l.kind l.others l.names) ≡ l.out ++ spellings (emptied l.kind l.others l.rest);
  few : length l.rest ≤ length l.names;
}

abbrev pub decreases-loop-rest : goal.decreases-loop-rest
decreases-loop-rest l = length l.rest
