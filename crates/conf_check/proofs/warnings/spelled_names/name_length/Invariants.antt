use Rattle.std.proofs.Common.{◌≡◌, ◌+◌, length}
use Rattle.conf_check.specs.Warnings.SpelledNames.{name_length}
use Rattle.conf_check.proofs.warnings.spelled_names.name_length.Given as goal

abbrev pub invariant-loop-rest : goal.invariant-loop-rest
invariant-loop-rest l = record {
  counted : name_length l.text ≡ l.count + name_length l.rest;
  within : l.count + length l.rest ≡ length l.text;
}

abbrev pub decreases-loop-rest : goal.decreases-loop-rest
decreases-loop-rest l = length l.rest
