use Rattle.std.proofs.Common.{rules}
use Rattle.boxed_nodes.proofs.sentinels.sentinel_node.SentinelNodeNode.release.Goals as goal

pub returns-clause-shown : goal.returns-clause-shown
returns-clause-shown c = search rules
