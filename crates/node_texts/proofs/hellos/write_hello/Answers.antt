use Rattle.node_texts.proofs.HelloAgain.{text_again}
use Rattle.node_texts.proofs.hellos.write_hello.Goals as goal

pub returns-clause-again : goal.returns-clause-again
returns-clause-again c = text_again c.args.hello.now c.requires
