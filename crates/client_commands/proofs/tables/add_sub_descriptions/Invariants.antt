use Rattle.std.proofs.Common.{◌≡◌, ◌++◌, length}
use Rattle.resp2.specs.Framing.Frame.{spellings}
use Rattle.client_commands.specs.Descriptions.{pairs_of}
use Rattle.client_commands.specs.Tables.{sub_descriptions}
use Rattle.client_commands.proofs.tables.add_sub_descriptions.Given as goal

abbrev pub invariant-loop-rest : goal.invariant-loop-rest
invariant-loop-rest l = l.fn.out ++ spellings (pairs_of (sub_descriptions l.subs)) ≡ l.out ++ spellings (pairs_of (sub_descriptions l.rest))

abbrev pub decreases-loop-rest : goal.decreases-loop-rest
decreases-loop-rest l = length l.rest
