use Rattle.conf_check.proofs.RepairLemmas.MendedFiles.{keeps_votes}
use Rattle.conf_check.proofs.repair.laws.law_mending_keeps_the_votes.Goals as goal

pub returns : goal.returns
returns c = keeps_votes
