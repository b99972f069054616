use Rattle.std.proofs.Common.{rules}
use Rattle.down_detector.proofs.watches.passed.Goals as goal

pub returns-then-past-bound-2 : goal.returns-then-past-bound-2
returns-then-past-bound-2 c = search rules
