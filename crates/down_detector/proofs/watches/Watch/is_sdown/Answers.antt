use Rattle.std.proofs.Common.{ap, ◌∙◌}
use Rattle.std.specs.Prelude.{is_some}
use Rattle.down_detector.proofs.watches.Watch.is_sdown.Goals as goal

pub returns-clause-down : goal.returns-clause-down
returns-clause-down c = λ opened calls stands. c.is_some.ensures ∙ ap is_some (c.sdown_since.ensures.since opened calls stands)

pub returns-clause-kept : goal.returns-clause-kept
returns-clause-kept c = c.is_some.ensures ∙ ap is_some c.sdown_since.ensures.kept
