use Rattle.std.proofs.Common.{◌≡◌, ◌+◌, ◌≤◌, length}
use Rattle.client_commands.specs.Courtesies.{named_masters}
use Rattle.client_commands.proofs.told_subcommands.count_named.Given as goal

abbrev pub invariant-loop-rest : goal.invariant-loop-rest
invariant-loop-rest l = record {
  counted : length (named_masters l.words l.masters) ≡ l.count + length (named_masters l.words l.rest);
  within : l.count + length l.rest ≤ length l.masters;
}

abbrev pub decreases-loop-rest : goal.decreases-loop-rest
decreases-loop-rest l = length l.rest
