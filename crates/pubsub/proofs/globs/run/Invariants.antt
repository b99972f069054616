use Rattle.std.proofs.Common.{◌≡◌, ◌≤◌, ◌∷◌, true, length}
use Rattle.pubsub.specs.Globs.{fits}
use Rattle.pubsub.proofs.globs.run.Given as goal

abbrev pub invariant-loop-after : goal.invariant-loop-after
invariant-loop-after l = record {
  here : fits l.pattern l.text ≡ fits l.left l.rest;
  later : fits (42 ∷ l.pattern) l.text ≡ true → fits (42 ∷ l.left) l.rest ≡ true;
  shorter : length l.left ≤ length l.pattern;
  fewer : length l.rest ≤ length l.text;
}

abbrev pub decreases-loop-after : goal.decreases-loop-after
decreases-loop-after l = length l.rest
