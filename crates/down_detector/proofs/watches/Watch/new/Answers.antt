use Rattle.std.proofs.Common.{refl}
use Rattle.down_detector.proofs.watches.Watch.new.Goals as goal

pub returns-clause-stands : goal.returns-clause-stands
returns-clause-stands c = record { silent_from = c.clock_of.ensures; replica_since = refl }

pub returns-clause-kept : goal.returns-clause-kept
returns-clause-kept c = rw c.clock_of.ensures refl
