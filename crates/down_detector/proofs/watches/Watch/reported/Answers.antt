use Rattle.std.proofs.Common.{rules}
use Rattle.down_detector.proofs.watches.Watch.reported.Goals as goal

pub returns-clause-stands : goal.returns-clause-stands
returns-clause-stands c = search rules

pub returns-clause-kept : goal.returns-clause-kept
returns-clause-kept c = search rules
