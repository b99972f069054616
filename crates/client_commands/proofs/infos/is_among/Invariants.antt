use Rattle.std.proofs.Common.{◌≡◌, length}
use Rattle.client_commands.specs.Sections.{is_among}
use Rattle.client_commands.proofs.infos.is_among.Given as goal

abbrev pub invariant-loop-rest : goal.invariant-loop-rest
invariant-loop-rest l = is_among l.section l.words ≡ is_among l.section l.rest

abbrev pub decreases-loop-rest : goal.decreases-loop-rest
decreases-loop-rest l = length l.rest
