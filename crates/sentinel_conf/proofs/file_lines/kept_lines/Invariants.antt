use Rattle.std.proofs.Common.{◌≡◌, ◌++◌, length}
use Rattle.std.specs.List.{flat_map}
use Rattle.conf_lines.specs.Words.{ended}
use Rattle.sentinel_conf.specs.Reading.{kept_lines_of}
use Rattle.sentinel_conf.proofs.file_lines.kept_lines.Given as goal

abbrev pub invariant-loop-rest : goal.invariant-loop-rest
invariant-loop-rest l = flat_map ended (kept_lines_of l.lines) ≡ l.kept.items ++ flat_map ended (kept_lines_of l.rest)

abbrev pub decreases-loop-rest : goal.decreases-loop-rest
decreases-loop-rest l = length l.rest
