use Rattle.std.proofs.Common.{◌≡◌, ◌++◌, length}
use Rattle.std.specs.List.{filter}
use Rattle.conf_check.specs.Warnings.WatchWarnings.{is_idle}
use Rattle.conf_check.proofs.warnings.watch_warnings.idle_of.Given as goal

abbrev pub invariant-loop-rest : goal.invariant-loop-rest
invariant-loop-rest l = filter (is_idle l.fn.file) l.fn.told ≡ l.idle.items ++ filter (is_idle l.fn.file) l.rest

abbrev pub decreases-loop-rest : goal.decreases-loop-rest
decreases-loop-rest l = length l.rest
