use Rattle.std.proofs.Common.{rules}
use Rattle.down_detector.proofs.watches.Watch.card_changed.Goals as goal

pub returns-then-is_some-clause-stands : goal.returns-then-is_some-clause-stands
returns-then-is_some-clause-stands c = search rules

pub returns-then-is_some-clause-kept : goal.returns-then-is_some-clause-kept
returns-then-is_some-clause-kept c = search rules
