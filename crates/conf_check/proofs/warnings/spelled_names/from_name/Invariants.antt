use Rattle.std.proofs.Common.{◌≡◌, length}
use Rattle.conf_check.specs.Warnings.SpelledNames.{from_name}
use Rattle.conf_check.proofs.warnings.spelled_names.from_name.Given as goal

abbrev pub invariant-loop-rest : goal.invariant-loop-rest
invariant-loop-rest l = from_name l.rest ≡ from_name l.text

abbrev pub decreases-loop-rest : goal.decreases-loop-rest
decreases-loop-rest l = length l.rest
