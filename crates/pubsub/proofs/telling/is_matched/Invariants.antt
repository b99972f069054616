use Rattle.std.proofs.Common.{◌≡◌, length}
use Rattle.std.specs.List.{list_any}
use Rattle.pubsub.specs.Globs.{matches}
use Rattle.pubsub.proofs.telling.is_matched.Given as goal

abbrev pub invariant-loop-rest : goal.invariant-loop-rest
invariant-loop-rest l = list_any (λ pattern. matches pattern l.channel) l.patterns ≡ list_any (λ pattern. matches pattern l.channel) l.rest

abbrev pub decreases-loop-rest : goal.decreases-loop-rest
decreases-loop-rest l = length l.rest
