use Rattle.node_texts.proofs.InfoAgain.{info_again}
use Rattle.node_texts.proofs.infos.write_info.Goals as goal

pub returns-clause-again : goal.returns-clause-again
returns-clause-again c = info_again c.args.info.now c.requires
