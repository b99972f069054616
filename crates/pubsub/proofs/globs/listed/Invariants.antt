use Rattle.std.proofs.Common.{◌≡◌, ◌||◌, length}
use Rattle.pubsub.specs.Globs.{is_listed, after_listed}
use Rattle.pubsub.proofs.globs.listed.Given as goal

abbrev pub invariant-loop-first : goal.invariant-loop-first
invariant-loop-first l = record {
  has : is_listed l.list l.byte ≡ (l.found || is_listed l.rest l.byte);
  rest : after_listed l.list ≡ after_listed l.rest;
}

abbrev pub decreases-loop-first : goal.decreases-loop-first
decreases-loop-first l = length l.rest
