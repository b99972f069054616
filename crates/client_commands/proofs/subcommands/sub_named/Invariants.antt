use Rattle.std.proofs.Common.{◌≡◌, length}
use Rattle.client_commands.specs.Subcommands.{all_subs, sub_among}
use Rattle.client_commands.proofs.subcommands.sub_named.Given as goal

abbrev pub invariant-loop-rest : goal.invariant-loop-rest
invariant-loop-rest l = sub_among all_subs l.word ≡ sub_among l.rest l.word

abbrev pub decreases-loop-rest : goal.decreases-loop-rest
decreases-loop-rest l = length l.rest
