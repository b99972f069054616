use Rattle.std.proofs.Common.{◌≡◌, ◌+◌, ◌∷◌, length}
use Rattle.pubsub.specs.Globs.{fits}
use Rattle.pubsub.proofs.globs.is_found.Given as goal

abbrev pub invariant-loop-after : goal.invariant-loop-after
invariant-loop-after l = fits (42 ∷ l.fn.pattern) l.fn.text ≡ fits (42 ∷ l.pattern) l.text

abbrev pub decreases-loop-after : goal.decreases-loop-after
decreases-loop-after l = length l.pattern + length l.text
