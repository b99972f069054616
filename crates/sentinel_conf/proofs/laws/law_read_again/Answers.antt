use Rattle.sentinel_conf.proofs.ReadAgain.{lines_of_rewritten, fits}
use Rattle.sentinel_conf.proofs.ReadConf.{conf_is, reads_again}
use Rattle.sentinel_conf.proofs.laws.law_read_again.Goals as goal

pub returns : goal.returns
returns c = record {
  again = reads_again;
  kept = λ bytes conf kept h k ids. lines_of_rewritten conf kept (conf_is bytes conf h) k ids;
  size = λ bytes conf kept h k. fits conf kept (conf_is bytes conf h) k;
}
