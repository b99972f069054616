use Rattle.conf_check.proofs.RepairLemmas.MendedFiles.{no_epoch_falls}
use Rattle.conf_check.proofs.repair.laws.law_no_epoch_falls.Goals as goal

pub returns : goal.returns
returns c = no_epoch_falls
