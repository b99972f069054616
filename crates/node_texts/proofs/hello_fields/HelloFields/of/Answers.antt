use Rattle.std.proofs.Common.{rules}
use Rattle.node_texts.proofs.hello_fields.HelloFields.of.Goals as goal

pub returns-in-Some : goal.returns-in-Some
returns-in-Some c = search rules
