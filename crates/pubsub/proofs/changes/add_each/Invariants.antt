use Rattle.std.proofs.Common.{◌≡◌, ◌≤◌, ◌++◌, length, take}
use Rattle.resp2.specs.Framing.Frame.{spellings}
use Rattle.pubsub.specs.Listening.{refusal, with_names}
use Rattle.pubsub.specs.Confirming.{added}
use Rattle.pubsub.proofs.changes.add_each.Given as goal

abbrev pub invariant-loop-rest : goal.invariant-loop-rest
invariant-loop-rest l = record {
  refused : refusal l.kind l.fn.list l.names ≡ refusal l.kind l.list l.rest;
  names : with_names l.fn.list l.names ≡ with_names l.list l.rest;
  text : l.fn.out ++ spellings (added l.kind l.others l.fn.list l.names) ≡ l.out ++ spellings (added l.kind l.others l.list l.rest);
  before : take (length l.fn.list) l.list ≡ l.fn.list;
  long : length l.fn.list ≤ length l.list;
}

abbrev pub decreases-loop-rest : goal.decreases-loop-rest
decreases-loop-rest l = length l.rest
