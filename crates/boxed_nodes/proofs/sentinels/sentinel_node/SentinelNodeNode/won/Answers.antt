use Rattle.std.proofs.Common.{rules}
use Rattle.boxed_nodes.proofs.sentinels.sentinel_node.SentinelNodeNode.won.Goals as goal

pub returns : goal.returns
returns c = search rules
