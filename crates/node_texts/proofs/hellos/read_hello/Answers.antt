use Rattle.std.proofs.Common.{◌∙◌}
use Rattle.node_texts.proofs.HelloAgain.{hello_again}
use Rattle.node_texts.proofs.HelloBack.{hello_read}
use Rattle.node_texts.proofs.hellos.read_hello.Goals as goal

pub returns-clause-spelled : goal.returns-clause-spelled
returns-clause-spelled c = hello_read c.args.bytes.now c.hello_of.result c.hello_of.ensures

pub returns-clause-whole : goal.returns-clause-whole
returns-clause-whole c = λ hello s. c.hello_of.ensures ∙ hello_again c.args.bytes.now hello s
