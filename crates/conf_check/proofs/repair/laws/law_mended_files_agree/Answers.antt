use Rattle.conf_check.proofs.RepairLemmas.MendedFiles.{mended_agree}
use Rattle.conf_check.proofs.repair.laws.law_mended_files_agree.Goals as goal

pub returns : goal.returns
returns c = mended_agree
