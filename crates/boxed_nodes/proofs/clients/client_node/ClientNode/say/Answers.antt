use Rattle.std.proofs.Common.{rules}
use Rattle.boxed_nodes.proofs.clients.client_node.ClientNode.say.Goals as goal

pub returns-in-CheckRole-clause-held : goal.returns-in-CheckRole-clause-held
returns-in-CheckRole-clause-held c = search rules
