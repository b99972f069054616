use Rattle.std.proofs.Common.{rules}
use Rattle.boxed_nodes.proofs.clients.client_node.ClientNodeNode.stop.Goals as goal

pub returns-clause-same : goal.returns-clause-same
returns-clause-same c = search rules
