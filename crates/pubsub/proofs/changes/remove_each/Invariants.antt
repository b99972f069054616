use Rattle.std.proofs.Common.{◌≡◌, ◌++◌, length}
use Rattle.resp2.specs.Framing.Frame.{spellings}
use Rattle.pubsub.specs.Listening.{without_names}
use Rattle.pubsub.specs.Confirming.{removed}
use Rattle.pubsub.proofs.changes.remove_each.Given as goal

abbrev pub invariant-loop-rest : goal.invariant-loop-rest
invariant-loop-rest l = record {
  names : without_names l.fn.list l.names ≡ without_names l.list l.rest;
  text : l.fn.out ++ spellings (removed l.kind l.others l.fn.list l.names) ≡ l.out ++ spellings (removed l.kind l.others l.list l.rest);
}

abbrev pub decreases-loop-rest : goal.decreases-loop-rest
decreases-loop-rest l = length l.rest
