use Rattle.std.proofs.Common.{rules}
use Rattle.down_detector.proofs.watches.Watch.heard.Goals as goal

pub returns-in-Other-clause-stands : goal.returns-in-Other-clause-stands
returns-in-Other-clause-stands c = search rules

pub returns-in-Other-clause-kept : goal.returns-in-Other-clause-kept
returns-in-Other-clause-kept c = search rules
