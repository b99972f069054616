use Rattle.std.proofs.Common.{◌≡◌, ◌++◌, map, length}
use Rattle.conf_lines.specs.Lines.{line_of}
use Rattle.sentinel_conf.specs.Meaning.{settings}
use Rattle.sentinel_conf.proofs.file_lines.settings_given.Given as goal

abbrev pub invariant-loop-rest : goal.invariant-loop-rest
invariant-loop-rest l = settings (map line_of l.lines) ≡ l.list.items ++ settings (map line_of l.rest)

abbrev pub decreases-loop-rest : goal.decreases-loop-rest
decreases-loop-rest l = length l.rest
