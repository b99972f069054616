use Rattle.std.proofs.Common.{◌≡◌}
use Rattle.sentinel_rules.specs.Profiles.{link_at, least_below}
use Rattle.sentinel_core.proofs.inputs.facts.least_link_ms.Given as goal

abbrev pub invariant-loop-k : goal.invariant-loop-k
invariant-loop-k l = l.least ≡ least_below (link_at l.state.plan l.state.core l.m) l.k
