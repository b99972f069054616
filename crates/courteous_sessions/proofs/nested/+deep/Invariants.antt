use Rattle.std.proofs.Common.{◌+◌, ◌*◌}
use Rattle.courteous_sessions.proofs.nested.+deep.Given as goal

abbrev pub decreases-deep_value : goal.decreases-deep_value
decreases-deep_value l = 2 * l.depth

abbrev pub decreases-deep_values : goal.decreases-deep_values
decreases-deep_values l = 2 * l.depth + 1
