use Rattle.std.proofs.Common.{◌≡◌, ◌+◌, ◌≤◌, ◌++◌, length}
use Rattle.ballot_law.specs.Cuts.{lines}
use Rattle.conf_check.specs.Warnings.Advices.{advices_from}
use Rattle.conf_check.proofs.warnings.line_advices.advices.Given as goal

abbrev pub invariant-loop-rest : goal.invariant-loop-rest
invariant-loop-rest l = record {
  told : advices_from (lines l.fn.known.first.now) (lines l.fn.known.sentinel.now) l.fn.sentinels 1 l.file
      ≡ l.list.items ++ advices_from (lines l.fn.known.first.now) (lines l.fn.known.sentinel.now) l.fn.sentinels l.number l.rest;
  counted : l.number + length l.rest ≤ length l.file + 1;
}

abbrev pub decreases-loop-rest : goal.decreases-loop-rest
decreases-loop-rest l = length l.rest
